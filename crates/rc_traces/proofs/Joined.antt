-- Texts that are written in pieces, one after another: words, and what stands between them.
use Rattle.std.proofs.Common.{◌≡◌, ◌++◌, ℕ, List, ap, ◌∙◌, append_assoc}

-- five texts after one another
pub five : (t0 t1 t2 t3 t4 t5 a b c d e : List ℕ) →
    t1 ≡ t0 ++ a → t2 ≡ t1 ++ b → t3 ≡ t2 ++ c → t4 ≡ t3 ++ d → t5 ≡ t4 ++ e → t5 ≡ t0 ++ (a ++ b ++ c ++ d ++ e)
five t0 t1 t2 t3 t4 t5 a b c d e h1 h2 h3 h4 h5 =
    h5 ∙ ap (λ t. t ++ e) (h4 ∙ ap (λ t. t ++ d) (h3 ∙ ap (λ t. t ++ c) (h2 ∙ ap (λ t. t ++ b) h1))) ∙ simp append_assoc

-- a line of two words and their numbers
pub pair_line : (old new w a v b end : List ℕ) → new ≡ old ++ (w ++ (a ++ (v ++ (b ++ end)))) → new ≡ old ++ (w ++ a ++ (v ++ b) ++ end)
pair_line old new w a v b end written = written ∙ ap (λ t. old ++ t) (simp append_assoc)

-- a line of seven words and their numbers, written in two pieces
pub seven_line : (old mid new w0 a w1 b w2 c w3 d w4 e w5 f w6 g end : List ℕ) →
    mid ≡ old ++ (w0 ++ (a ++ (w1 ++ (b ++ (w2 ++ (c ++ (w3 ++ d))))))) →
    new ≡ mid ++ (w4 ++ (e ++ (w5 ++ (f ++ (w6 ++ (g ++ end)))))) →
    new ≡ old ++ (w0 ++ a ++ (w1 ++ b) ++ (w2 ++ c) ++ (w3 ++ d) ++ (w4 ++ e) ++ (w5 ++ f) ++ (w6 ++ g) ++ end)
seven_line old mid new w0 a w1 b w2 c w3 d w4 e w5 f w6 g end first second =
    second ∙ ap (λ t. t ++ (w4 ++ (e ++ (w5 ++ (f ++ (w6 ++ (g ++ end))))))) first ∙ simp append_assoc

-- six words and their numbers after a beginning, written in two pieces
pub six_after : (old mid new w w0 a w1 b w2 c w3 d w4 e w5 f : List ℕ) →
    mid ≡ old ++ (w ++ (w0 ++ (a ++ (w1 ++ (b ++ (w2 ++ c)))))) →
    new ≡ mid ++ (w3 ++ (d ++ (w4 ++ (e ++ (w5 ++ f))))) →
    new ≡ old ++ (w ++ (w0 ++ a) ++ (w1 ++ b) ++ (w2 ++ c) ++ (w3 ++ d) ++ (w4 ++ e) ++ (w5 ++ f))
six_after old mid new w w0 a w1 b w2 c w3 d w4 e w5 f first second =
    second ∙ ap (λ t. t ++ (w3 ++ (d ++ (w4 ++ (e ++ (w5 ++ f)))))) first ∙ simp append_assoc
