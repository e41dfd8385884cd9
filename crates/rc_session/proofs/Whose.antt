-- What is due, of a coordinator whose book was found.
use Rattle.std.proofs.Common.{◌≡◌, ℕ, List, Some, sym}
use Rattle.rc_types.specs.declared.ids.ServerId.{ServerId}
use Rattle.rc_codec.specs.Parts.{listed}
use Rattle.rc_codec.specs.Fields.{id_code}
use Rattle.rc_coordinator.specs.Book.{Book}
use Rattle.rc_world.specs.NodeView.{NodeData, book_in}
use Rattle.rc_runbook.specs.Runbook.{dues}
use Rattle.rc_session.specs.Looks.{AreDue, all_due}

pub are_due : (book : Book) (node : NodeData) (heard silent stuck code : List ℕ) (hs ss ts : List ServerId) →
    Some book ≡ book_in node → heard ≡ listed id_code hs → silent ≡ listed id_code ss → stuck ≡ listed id_code ts →
    code ≡ all_due (dues book hs ss ts) → AreDue heard silent stuck node code
are_due book node heard silent stuck code hs ss ts its h s t is = record {
  book = book;
  its = sym its;
  heard_ids = hs;
  silent_ids = ss;
  stuck_ids = ts;
  are_heard = h;
  are_silent = s;
  are_stuck = t;
  is = is;
}
