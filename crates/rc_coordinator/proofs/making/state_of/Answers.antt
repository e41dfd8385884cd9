use Rattle.std.proofs.Common.{◌≡◌, ℕ, Bool, List, ◌^◌, ◌<◌, length, Err, sym, subst, ⊎_elim}
use Rattle.std.specs.List.{IsDistinct}
use Rattle.std.specs.Map.{keys_of}
use Rattle.std.proofs.lemmas.Result.{IfOk-weaker, IfErr-weaker, IfOk-at_ok, IfErr-at_err}
use Rattle.rc_model.specs.Model.{ServerId, Pair, Tablet, same_id, Attempt}
use Rattle.rc_rangetree.specs.Ranges.{AreTablets}
use Rattle.rc_coordinator.specs.Book.{Book, IsBook}
use Rattle.rc_coordinator.proofs.making.state_of.Goals as goal

pub returns-clause-ok : goal.returns-clause-ok
returns-clause-ok g c =
    IfOk-weaker c.joined.result _ _ (λ state are.
    let tree = IfOk-at_ok _ are.0 c.tree_of-tree.ensures.ok in
    let attempts = IfOk-at_ok _ are.1 c.recoveries_of-recoveries.ensures.attempts in
    let current = IfOk-at_ok _ are.1 c.recoveries_of-recoveries.ensures.current in
    let grants = IfOk-at_ok _ are.1 c.recoveries_of-recoveries.ensures.grants in
    let servers = IfOk-at_ok _ are.2 c.tables_of-tables.ensures.servers in
    let ready = IfOk-at_ok _ are.2 c.tables_of-tables.ensures.ready in
    let least = IfOk-at_ok _ are.2 c.tables_of-tables.ensures.least in
    cc (tree, attempts, current, grants, servers, ready, least, are.3)) c.joined.ensures.ok

pub returns-clause-refused : goal.returns-clause-refused
returns-clause-refused g c =
    IfErr-weaker c.joined.result _ _ (λ fault why is those_are.
    let book = subst (λ (those : Book). IsBook those) (sym c.lists.view_is) those_are in
    let rows = subst (λ (es : List (ServerId × Bool)). IsDistinct same_id (keys_of es)) (sym c.as_slice.ensures) book.servers in
    let ready = subst (λ (ids : List ServerId). IsDistinct same_id ids) (sym c.as_slice-2.ensures) book.ready in
    let least = subst (λ (es : List (ServerId × Pair)). IsDistinct same_id (keys_of es)) (sym c.as_slice-3.ensures) book.least in
    let tablets = subst (λ (those : List Tablet). AreTablets those) (sym c.as_slice-4.ensures) book.tablets in
    let attempts = subst (λ (those : List Attempt). length those < 2 ^ 32) (sym c.into_vec.ensures) book.attempts in
    let current = subst (λ (es : List (ServerId × ℕ)). IsDistinct same_id (keys_of es)) (sym c.as_slice-current.ensures)
    book.current in
    ⊎_elim (λ (none : c.tables_of-tables.result ≡ Err fault).
    IfErr-at_err _ none c.tables_of-tables.ensures.refused is rows ready least)
    (λ other. ⊎_elim (λ (none : c.tree_of-tree.result ≡ Err fault).
    IfErr-at_err _ none c.tree_of-tree.ensures.refused is tablets)
    (λ (none : c.recoveries_of-recoveries.result ≡ Err fault).
    IfErr-at_err _ none c.recoveries_of-recoveries.ensures.refused is attempts current) other) why)
    c.joined.ensures.refused
