use Rattle.rc_keeping.proofs.Anew.{files-make-anew, one-more-is-written, fewer-stand, saves-stand, stops-make-equal}
use Rattle.rc_keeping.proofs.files.files_make_anew.Goals as goal

pub returns : goal.returns
returns c = record {
  anew = files-make-anew;
  more = one-more-is-written;
  fewer = fewer-stand;
  saves = saves-stand;
  stops = stops-make-equal;
}
