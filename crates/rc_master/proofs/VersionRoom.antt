-- Versions leave room for one more.
use Rattle.std.proofs.Common.{◌≡◌, ℕ, ◌-◌, ◌^◌, ◌<◌, List, [], ◌∷◌, max, zero, suc, subst, sym, arith}
use Rattle.std.specs.List.{All}
use Rattle.rc_model.specs.Model.{Entry, is_of, greatest_version, next_version}
use Rattle.rc_model.proofs.Tests.{either}

greatest-fits : (term table key : ℕ) (entries : List Entry) → All (λ entry. entry.version < 2 ^ 64 - 1) entries →
    greatest_version term table key entries < 2 ^ 64 - 1
greatest-fits term table key [] all = omega arith
greatest-fits term table key (entry ∷ entries) all =
    let rest : greatest_version term table key entries < 2 ^ 64 - 1 =
    greatest-fits term table key entries (λ k d less. all (suc k) d (omega arith)) in
    let here : entry.version < 2 ^ 64 - 1 = all zero entry (omega arith) in
    either (λ n. n < 2 ^ 64 - 1) (is_of term table key entry)
    (max entry.version (greatest_version term table key entries)) (greatest_version term table key entries)
    (λ _. omega arith) (λ _. rest)

-- the next version is one of 64 bits
pub next-fits : (term table key : ℕ) (entries noted : List Entry) → noted ≡ entries → All (λ entry. entry.version < 2 ^ 64 - 1) entries →
    next_version term table key noted < 2 ^ 64
next-fits term table key entries noted same all =
    let most : greatest_version term table key entries < 2 ^ 64 - 1 = greatest-fits term table key entries all in
    subst (λ es. next_version term table key es < 2 ^ 64) (sym same) (omega arith)
