-- The names of open replicas, master by master.
use Rattle.std.proofs.Common.{◌≡◌, ℕ, suc, List, [], ◌∷◌, ◌++◌, Some, refl, sym, ap, ◌∙◌, arith}
use Rattle.std.specs.List.{All}
use Rattle.std.specs.BTreeMap.{is_at}
use Rattle.std.specs.Map.{keys_of, lookup}
use Rattle.rc_model.specs.Model.{ServerId, Held, open_names_of, open_names_among, open_names}
use Rattle.rc_backup.specs.BackupView.{held_in, backup_of, id_order}
use Rattle.rc_backup.proofs.TableLemmas.{Table, holds, found-held}

-- those of the masters of a table, one after the other
abbrev pub names_among : Table → List (ServerId × ℕ)
names_among [] = []
names_among (e ∷ es) = open_names_of e.0 e.1.replicas ++ names_among es

-- a look-up in the table finds each of these entries
abbrev pub AllFound : Table → Table → Type 0
AllFound table [] = Unit {0}
AllFound table (e ∷ es) = (lookup (is_at (id_order e.0)) table ≡ Some e.1) × AllFound table es

found_from_all : (table es : Table) → All (λ e. lookup (is_at (id_order e.0)) table ≡ Some e.1) es → AllFound table es
found_from_all table [] all = tt
found_from_all table (e ∷ es) all = (all 0 e (omega arith), found_from_all table es (λ k d h. all (suc k) d (omega arith)))

-- so they are the names that the definitions look up
looked_up : (own : ServerId) (table es : Table) → AllFound table es →
    names_among es ≡ open_names_among (backup_of (holds own table)) (keys_of es)
looked_up own table [] all = refl
looked_up own table (e ∷ es) all =
    let is : e.1 ≡ held_in table e.0 = found-held e.0 table (Some e.1) (sym all.0) in
    ap (λ (held : Held). open_names_of e.0 held.replicas ++ names_among es) is
    ∙ ap (λ names. open_names_of e.0 (held_in table e.0).replicas ++ names) (looked_up own table es all.1)

pub names_among-all : (own : ServerId) (table : Table) →
    All (λ e. lookup (is_at (id_order e.0)) table ≡ Some e.1) table →
    names_among table ≡ open_names (backup_of (holds own table))
names_among-all own table all = looked_up own table table (found_from_all table table all)
