-- A session that begins, and one whose save is begun.
use Rattle.std.proofs.Common.{◌≡◌, ◌∙◌, ℕ, ◌-◌, List, [], length, None, ap, refl, sym, subst, arith}
use Rattle.rc_world.specs.NodeView.{NodeData, node_seen}
use Rattle.rc_keeping.specs.SaveClaims.{IsSaved}
use Rattle.rc_process.specs.View.{ProcessData, ProcessView, begun, save_begun}
use Rattle.rc_session.specs.View.{SessionData}
use Rattle.rc_session.specs.Claims.{IsFirst}

nothing_before : (xs before : List ℕ) → before ≡ [] → length xs - length before ≡ length xs
nothing_before xs before none = let z : length before ≡ 0 = ap length none in omega arith

pub is_first : (node : NodeData) (session : SessionData) (process : ProcessData) (journal before : List ℕ) →
    IsSaved node before journal → before ≡ [] → process ≡ begun node (length journal - length before) →
    session ≡ record { process = process; journal = journal; second = []; hand = None } → IsFirst (node_seen node) session
is_first node session process journal before saved none is e =
    let j : session.journal ≡ journal = ap (λ (s : SessionData). s.journal) e in
    record {
      node = node;
      new = refl;
      saved = subst (λ (b : List ℕ). IsSaved node b session.journal) none
          (subst (λ (xs : List ℕ). IsSaved node before xs) (sym j) saved);
      process = ap (λ (s : SessionData). s.process) e
          ∙ (is ∙ ap (begun node) (nothing_before journal before none ∙ sym (ap length j)));
      second = ap (λ (s : SessionData). s.second) e;
      hand = ap (λ (s : SessionData). s.hand) e;
    }

pub save_is_begun : (old new : ProcessView) (before after : List ℕ) → before ≡ [] →
    new ≡ save_begun old (length after - length before) → new ≡ save_begun old (length after)
save_is_begun old new before after none is = is ∙ ap (save_begun old) (nothing_before after before none)
