use Rattle.std.proofs.Common.{◌≡◌, [], ◌∷◌, ◌++◌, ap, sym, ◌∙◌}
use Rattle.std.proofs.lemmas.List.{append_assoc}
use Rattle.std.specs.BTreeMap.{insert_entry}
use Rattle.rc_types.proofs.Maps.{insert_entry-first}
use Rattle.rc_types.proofs.copies.copied_map.Goals as goal

pub loop-key-preserved-in_ok-insert : goal.loop-key-preserved-in_ok-insert
loop-key-preserved-in_ok-insert g c =
    let last = c.loop-key.invariant.0 in
    let key = c.in-Some.key.now in
    let value = c.in-Some.value.now in
    let rest = c.next.new.self.iter in
    let whole : rest ++ (key, value) ∷ last ≡ c.args.map.now.entries =
    sym (append_assoc rest ((key, value) ∷ []) last) ∙ sym (ap (λ es. es ++ last) c.in-Some.ensures.steps)
    ∙ c.loop-key.invariant.1 in
    let put : c.insert.new.self.entries ≡ insert_entry g.K.Ord.cmp last key value =
    c.in_ok-insert.ensures.entries ∙ ap (λ es. insert_entry g.K.Ord.cmp es key c.in_ok-try_clone.field-0) c.loop-key.invariant.2
    ∙ ap (λ copy. insert_entry g.K.Ord.cmp last key copy) c.in_ok-try_clone.ensures in
    let first = insert_entry-first g.K.Ord.cmp rest (key, value) last c.args.map.now.entries whole c.iter.ensures.ordered in
    ((key, value) ∷ last, whole, put ∙ first)

pub loop-key-preserved : goal.loop-key-preserved
loop-key-preserved g c =
    let last = c.loop-key.invariant.0 in
    let key = c.in-Some.key.now in
    let value = c.in-Some.value.now in
    let rest = c.next.new.self.iter in
    let whole : rest ++ (key, value) ∷ last ≡ c.args.map.now.entries =
    sym (append_assoc rest ((key, value) ∷ []) last) ∙ sym (ap (λ es. es ++ last) c.in-Some.ensures.steps)
    ∙ c.loop-key.invariant.1 in
    let put : c.insert.new.self.entries ≡ insert_entry g.K.Ord.cmp last key value =
    c.in_ok-insert.ensures.entries ∙ ap (λ es. insert_entry g.K.Ord.cmp es key c.in_ok-try_clone.field-0) c.loop-key.invariant.2
    ∙ ap (λ copy. insert_entry g.K.Ord.cmp last key copy) c.in_ok-try_clone.ensures in
    let first = insert_entry-first g.K.Ord.cmp rest (key, value) last c.args.map.now.entries whole c.iter.ensures.ordered in
    ((key, value) ∷ last, whole, put ∙ first)
