-- Where no part is to be answered, none is.
use Rattle.std.proofs.Common.{◌≡◌, ℕ, List, find, Option, Some, None}
use Rattle.std.proofs.Common.{is_some, option_map, refl, sym, ap}
use Rattle.rc_model.specs.Model.{Entry, Ownership, PartState, is_to_answer, to_answer, after_answer, Master}
use Rattle.rc_model.specs.Model.{durable_replayed, answers_part, follows_replay}
use Rattle.rc_ownership.proofs.PartTables.{answered_in-none}
use Rattle.rc_master.specs.Telling.{told_of}
use Rattle.rc_master.specs.Rules.{did, or_still}

mapped-none : (found : Option PartState) → None ≡ option_map (λ state. state.part.term) found → found ≡ None
mapped-none None e = refl
mapped-none (Some state) e = cc

answer-none : (durable : List Entry) (own : Ownership) → None ≡ to_answer durable own → after_answer durable own ≡ own
answer-none durable own e =
    ap (λ (parts : List PartState). record own { parts = parts })
    (answered_in-none durable own.parts (mapped-none (find (is_to_answer durable) own.parts) e))

-- whether or not a part is told of, the ownership is the one after the answer
pub answered-state : (master : Master) → (or_still master (follows_replay master)).0 ≡
    record master { ownership = after_answer (durable_replayed master) master.ownership }
answered-state master = by (to_answer (durable_replayed master) master.ownership) refl
  where
    by : (term : Option ℕ) → to_answer (durable_replayed master) master.ownership ≡ term →
        (or_still master (answers_part master term)).0 ≡
        record master { ownership = after_answer (durable_replayed master) master.ownership }
    by None is =
        ap (λ (own : Ownership). record master { ownership = own })
        (sym (answer-none (durable_replayed master) master.ownership (sym is)))
    by (Some term) is = refl

-- whether a part is told of
pub answered-did : (master : Master) →
    is_some (to_answer (durable_replayed master) master.ownership) ≡ did (follows_replay master)
answered-did master = by (to_answer (durable_replayed master) master.ownership)
  where
    by : (term : Option ℕ) → is_some term ≡ did (answers_part master term)
    by None = refl
    by (Some term) = refl

-- and what is told
pub answered-sends : (master : Master) →
    told_of master.log.own master.tasks (to_answer (durable_replayed master) master.ownership)
    ≡ (or_still master (follows_replay master)).1
answered-sends master = by (to_answer (durable_replayed master) master.ownership)
  where
    by : (term : Option ℕ) → told_of master.log.own master.tasks term ≡ (or_still master (answers_part master term)).1
    by None = refl
    by (Some term) = refl
