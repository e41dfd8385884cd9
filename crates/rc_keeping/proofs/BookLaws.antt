-- A coordinator's book is read back, and nothing else is.
use Rattle.std.proofs.Common.{ℕ, Bool, List, ◌++◌, refl}
use Rattle.rc_model.specs.Model.{Pair, ServerId, Grant, Tablet, Attempt}
use Rattle.rc_codec.specs.Parts.{four_bytes, listed}
use Rattle.rc_codec.specs.Reading.{◌⊗◌}
use Rattle.rc_codec.specs.Fields.{id_code, pair_code, tablet_code, grant_code, up_code, u32_at, id_at, pair_at, tablet_at, grant_at}
use Rattle.rc_codec.proofs.Lawful.{Lawful, made_lawful, pair_lawful, three_lawful, four_lawful, five_lawful}
use Rattle.rc_codec.proofs.Lawful.{optional_lawful, listed_lawful}
use Rattle.rc_codec.proofs.EachKind.{u16_law, u32_law, flag_law, id_law, row_law, plan_row_law, range_law, part_law, up_law}
use Rattle.rc_keeping.specs.Saved.{reply_code, given_code, decision_code, attempt_code, least_code, current_code, book_code}
use Rattle.rc_keeping.specs.SaveReaders.{reply_at, given_at, decision_at, attempt_at, known_at, begun_at, book_at}

pair_law : Lawful pair_code pair_at
pair_law = made_lawful (pair_lawful u16_law u16_law) (λ p. record { seg = p.0; epoch = p.1 }) (λ r. (r.seg, r.epoch)) pair_code
    (λ r. refl) (λ p. refl)

tablet_law : Lawful tablet_code tablet_at
tablet_law = made_lawful (four_lawful range_law id_law u32_law flag_law)
    (λ p. record { range = p.0; owner = p.1; term = p.2; crashed = p.3 })
    (λ t. (t.range, t.owner, t.term, t.crashed)) tablet_code (λ t. refl) (λ p. refl)

grant_law : Lawful grant_code grant_at
grant_law = made_lawful (five_lawful range_law u32_law u32_law u32_law id_law)
    (λ p. record { range = p.0; term = p.1; previous = p.2; attempt = p.3; owner = p.4 })
    (λ g. (g.range, g.term, g.previous, g.attempt, g.owner)) grant_code (λ g. refl) (λ p. refl)

reply_law : Lawful reply_code reply_at
reply_law = pair_lawful id_law (listed_lawful row_law)

given_law : Lawful given_code given_at
given_law = made_lawful (pair_lawful id_law part_law) (λ p. record { to = p.0; part = p.1 }) (λ g. (g.to, g.part)) given_code
    (λ g. refl) (λ p. refl)

decision_law : Lawful decision_code decision_at
decision_law = made_lawful (three_lawful u16_law (listed_lawful plan_row_law) (listed_lawful given_law))
    (λ p. record { plan = record { head = p.0; rows = p.1 }; parts = p.2 })
    (λ d. (d.plan.head, d.plan.rows, d.parts)) decision_code (λ d. refl) (λ p. refl)

attempt_law : Lawful attempt_code attempt_at
attempt_law = made_lawful (three_lawful id_law (listed_lawful reply_law) (optional_lawful decision_law))
    (λ p. record { master = p.0; replies = p.1; decided = p.2 })
    (λ a. (a.master, a.replies, a.decided)) attempt_code (λ a. refl) (λ p. refl)

least_law : Lawful least_code (id_at ⊗ pair_at)
least_law = pair_lawful id_law pair_law

current_law : Lawful current_code (id_at ⊗ u32_at)
current_law = pair_lawful id_law u32_law

-- ---- a book, in two parts

abbrev Known : Type 0
Known = ℕ × List (ServerId × Bool) × List ServerId × List Tablet × List (ServerId × Pair)

abbrev Begun : Type 0
Begun = List Attempt × List (ServerId × ℕ) × List Grant × ℕ

abbrev known_spelled : Known → List ℕ
known_spelled p = four_bytes p.0 ++ listed up_code p.1 ++ listed id_code p.2 ++ listed tablet_code p.3 ++ listed least_code p.4

abbrev begun_spelled : Begun → List ℕ
begun_spelled p = listed attempt_code p.0 ++ listed current_code p.1 ++ listed grant_code p.2 ++ four_bytes p.3

known_law : Lawful known_spelled known_at
known_law = five_lawful u32_law (listed_lawful up_law) (listed_lawful id_law) (listed_lawful tablet_law) (listed_lawful least_law)

begun_law : Lawful begun_spelled begun_at
begun_law = four_lawful (listed_lawful attempt_law) (listed_lawful current_law) (listed_lawful grant_law) u32_law

pub book_law : Lawful book_code book_at
book_law = made_lawful (pair_lawful known_law begun_law)
    (λ p. record {
      servers = record { version = p.0.0; rows = p.0.1 };
      ready = p.0.2;
      tablets = p.0.3;
      least = p.0.4;
      attempts = p.1.0;
      current = p.1.1;
      grants = p.1.2;
      last_term = p.1.3;
    })
    (λ b. ((b.servers.version, b.servers.rows, b.ready, b.tablets, b.least), (b.attempts, b.current, b.grants, b.last_term)))
    book_code (λ b. refl) (λ p. refl)
