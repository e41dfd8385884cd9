-- What is in hand, and leaves or stays.
use Rattle.std.proofs.Common.{◌≡◌, ℕ, ◌<◌, List, ◌++◌, length, drop, refl, ap, ◌∙◌, subst, sym, Some, None}
use Rattle.rc_types.specs.declared.messages.Message.{Message}
use Rattle.rc_process.specs.View.{Leaves}
use Rattle.rc_session.specs.View.{SessionView, all_framed, hand_code}
use Rattle.rc_session.specs.Claims.{InHand, Was, Came, IsInHand, HasLeft, HasNoRoom}

in_hand : (old held : SessionView) (messages : List Message) → InHand old held messages → held.hand ≡ Some messages
in_hand old held messages (Was stood same) = ap (λ (s : SessionView). s.hand) same ∙ stood
in_hand old held messages (Came none left is) = ap (λ (s : SessionView). s.hand) is

its_code : (old held : SessionView) (code : List ℕ) (h : IsInHand old held) → code ≡ hand_code held.hand →
    code ≡ all_framed h.messages
its_code old held code h coded = coded ∙ ap hand_code (in_hand old held h.messages h.hand)

pub was_in_hand : (session : SessionView) (messages : List Message) → session.hand ≡ Some messages → IsInHand session session
was_in_hand session messages stood = record { messages = messages; hand = Was stood refl }

pub came_in_hand : (old new : SessionView) (messages : List Message) → old.hand ≡ None → Leaves old.process new.process messages →
    new ≡ record old { process = new.process; hand = Some messages } → IsInHand old new
came_in_hand old new messages none left is = record { messages = messages; hand = Came none left is }

pub has_left : (old held : SessionView) (before after code : List ℕ) (count : ℕ) → IsInHand old held →
    code ≡ hand_code held.hand → after ≡ code ++ drop (length code) before → count ≡ length code →
    HasLeft old (record held { hand = None }) before after count
has_left old held before after code count h coded is counted =
    let e : code ≡ all_framed h.messages = its_code old held code h coded in
    record {
      messages = h.messages;
      held = held;
      hand = h.hand;
      is = refl;
      coded = subst (λ (c : List ℕ). after ≡ c ++ drop (length c) before) e is;
      counted = counted ∙ ap length e;
    }

pub has_no_room : (old held : SessionView) (before after code : List ℕ) (count : ℕ) → IsInHand old held →
    code ≡ hand_code held.hand → length before < length code → after ≡ before → count ≡ length code →
    HasNoRoom old held before after count
has_no_room old held before after code count h coded few same counted =
    let e : code ≡ all_framed h.messages = its_code old held code h coded in
    record {
      messages = h.messages;
      hand = h.hand;
      counted = counted ∙ ap length e;
      few = subst (λ (n : ℕ). length before < n) (sym counted) few;
      same = same;
    }
