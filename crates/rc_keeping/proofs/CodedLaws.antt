-- What a node is saved as is read back, and nothing else is.
use Rattle.std.proofs.Common.{◌≡◌, ℕ, suc, Bool, true, false, cond, eqb, List, [], ◌∷◌, ◌++◌, Option, Some, None, refl, sym, ap, ◌∙◌}
use Rattle.std.proofs.lemmas.Bool.{eqb-true}
use Rattle.std.proofs.lemmas.List.{append-nil}
use Rattle.rc_codec.specs.Reading.{◌>>=◌, made}
use Rattle.rc_codec.proofs.Lawful.{IsBytes, Lawful, bind_some, made_again, made_takes, versioned_lawful}
use Rattle.rc_keeping.specs.Readers.{alone}
use Rattle.rc_keeping.specs.Saved.{Saved, HostSave, CoordinatorSave, kind_code, coded}
use Rattle.rc_keeping.specs.SaveReaders.{host_at, book_at, kind_at, coded_at, alone_at}
use Rattle.rc_keeping.proofs.HostLaws.{host_law}
use Rattle.rc_keeping.proofs.BookLaws.{book_law}

-- ---- behind the version and the kind

kind_again : (saved : Saved) (rest : List ℕ) → kind_at (kind_code saved ++ rest) ≡ Some (saved, rest)
kind_again (HostSave parts) rest = made_again host_law HostSave parts rest
kind_again (CoordinatorSave book) rest = made_again book_law CoordinatorSave book rest

abbrev read_as : Bool → Bool → List ℕ → Option (Saved × List ℕ)
read_as host coordinator xs = cond host (made host_at HostSave xs) (cond coordinator (made book_at CoordinatorSave xs) None)

kind_takes : (xs : List ℕ) (saved : Saved) (rest : List ℕ) → IsBytes xs → kind_at xs ≡ Some (saved, rest) → xs ≡ kind_code saved ++ rest
kind_takes [] saved rest fits e = absurd cc
kind_takes (kind ∷ xs) saved rest fits e = by (eqb kind 9) (eqb kind 10) refl refl e
  where
    by : (host coordinator : Bool) → eqb kind 9 ≡ host → eqb kind 10 ≡ coordinator →
        read_as host coordinator xs ≡ Some (saved, rest) → kind ∷ xs ≡ kind_code saved ++ rest
    by true coordinator is other e =
        let t = made_takes host_law HostSave xs saved rest (λ i. fits (suc i)) e in
        ap (λ (k : ℕ). k ∷ xs) (eqb-true kind 9 is) ∙ ap (λ (ys : List ℕ). 9 ∷ ys) t.2
        ∙ ap (λ (s : Saved). kind_code s ++ rest) t.1
    by false true other is e =
        let t = made_takes book_law CoordinatorSave xs saved rest (λ i. fits (suc i)) e in
        ap (λ (k : ℕ). k ∷ xs) (eqb-true kind 10 is) ∙ ap (λ (ys : List ℕ). 10 ∷ ys) t.2
        ∙ ap (λ (s : Saved). kind_code s ++ rest) t.1
    by false false other neither e = absurd cc

pub coded_law : Lawful coded coded_at
coded_law = versioned_lawful (record { again = kind_again; takes = kind_takes })

-- ---- and nothing behind it

alone-is : (read : Saved × List ℕ) (s : Saved) → alone read ≡ Some s → read ≡ (s, [])
alone-is (t, []) s e = cc
alone-is (t, b ∷ rest) s e = absurd cc

pub alone-again : (s : Saved) → alone_at (coded s) ≡ Some s
unfolding alone_at
alone-again s =
    ap (λ (xs : List ℕ). coded_at xs >>= alone) (sym (append-nil (coded s)))
    ∙ ap (λ (r : Option (Saved × List ℕ)). r >>= alone) (coded_law.again s [])

pub alone-takes : (xs : List ℕ) (s : Saved) → IsBytes xs → alone_at xs ≡ Some s → xs ≡ coded s
unfolding alone_at
alone-takes xs s fits e =
    let b = bind_some (coded_at xs) alone s e in
    coded_law.takes xs s [] fits (b.1 ∙ ap (λ (p : Saved × List ℕ). Some p) (alone-is b.0 s b.2)) ∙ append-nil (coded s)
