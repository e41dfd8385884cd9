use Rattle.std.proofs.Common.{◌≡◌, [], ◌∷◌, ◌++◌, map, nat_eq, append_assoc, ap, sym, ◌∙◌}
use Rattle.std.proofs.lemmas.List.{map-append}
use Rattle.indexmap.specs.IndexMap.{insert_entry}
use Rattle.rc_world.specs.HostView.{HostData}
use Rattle.rc_world.specs.Stops.{halted, halted_entry}
use Rattle.rc_world.proofs.CopiedHosts.{copied_behind}
use Rattle.rc_world.proofs.stopping.stopped_hosts.Goals as goal

pub loop-index-preserved-in_ok-insert : goal.loop-index-preserved-in_ok-insert
loop-index-preserved-in_ok-insert c =
    let done = c.loop-index.invariant.0 in
    let index = c.in-Some.index.now in
    let host : HostData = c.in-Some.host.now in
    let rest = c.next.new.self in
    let so_far : done ++ (index, host) ∷ rest ≡ c.args.hosts.now.entries =
    ap (λ es. done ++ es) (sym c.in-Some.ensures.steps) ∙ c.loop-index.invariant.1 in
    let put : c.insert.new.self.entries ≡ map halted_entry done ++ (index, halted host) ∷ [] =
    c.in_ok-insert.ensures.entries ∙ ap (λ es. insert_entry nat_eq es index c.in_ok-stopped.field-0) c.loop-index.invariant.2
    ∙ ap (λ copy. insert_entry nat_eq (map halted_entry done) index copy) c.in_ok-stopped.ensures
    ∙ copied_behind done (index, host) rest c.args.hosts.now.entries so_far c.iter-index-items.ensures.unique in (
      done ++ (index, host) ∷ [],
      append_assoc done ((index, host) ∷ []) rest ∙ so_far,
      put ∙ sym (map-append halted_entry done ((index, host) ∷ [])),
    )

pub loop-index-preserved-in_ok-insert-2 : goal.loop-index-preserved-in_ok-insert-2
loop-index-preserved-in_ok-insert-2 c =
    let done = c.loop-index.invariant.0 in
    let index = c.in-Some.index.now in
    let host : HostData = c.in-Some.host.now in
    let rest = c.next.new.self in
    let so_far : done ++ (index, host) ∷ rest ≡ c.args.hosts.now.entries =
    ap (λ es. done ++ es) (sym c.in-Some.ensures.steps) ∙ c.loop-index.invariant.1 in
    let put : c.insert.new.self.entries ≡ map halted_entry done ++ (index, halted host) ∷ [] =
    c.in_ok-insert.ensures.entries ∙ ap (λ es. insert_entry nat_eq es index c.in_ok-stopped.field-0) c.loop-index.invariant.2
    ∙ ap (λ copy. insert_entry nat_eq (map halted_entry done) index copy) c.in_ok-stopped.ensures
    ∙ copied_behind done (index, host) rest c.args.hosts.now.entries so_far c.iter-index-items.ensures.unique in (
      done ++ (index, host) ∷ [],
      append_assoc done ((index, host) ∷ []) rest ∙ so_far,
      put ∙ sym (map-append halted_entry done ((index, host) ∷ [])),
    )

pub loop-index-preserved : goal.loop-index-preserved
loop-index-preserved c =
    let done = c.loop-index.invariant.0 in
    let index = c.in-Some.index.now in
    let host : HostData = c.in-Some.host.now in
    let rest = c.next.new.self in
    let so_far : done ++ (index, host) ∷ rest ≡ c.args.hosts.now.entries =
    ap (λ es. done ++ es) (sym c.in-Some.ensures.steps) ∙ c.loop-index.invariant.1 in
    let put : c.insert.new.self.entries ≡ map halted_entry done ++ (index, halted host) ∷ [] =
    c.in_ok-insert.ensures.entries ∙ ap (λ es. insert_entry nat_eq es index c.in_ok-stopped.field-0) c.loop-index.invariant.2
    ∙ ap (λ copy. insert_entry nat_eq (map halted_entry done) index copy) c.in_ok-stopped.ensures
    ∙ copied_behind done (index, host) rest c.args.hosts.now.entries so_far c.iter-index-items.ensures.unique in (
      done ++ (index, host) ∷ [],
      append_assoc done ((index, host) ∷ []) rest ∙ so_far,
      put ∙ sym (map-append halted_entry done ((index, host) ∷ [])),
    )
