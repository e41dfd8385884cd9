use Rattle.rc_step_laws.proofs.FreeWorlds.{recoveries-are-digests, heads-are-not-shut, freed-is-left-out, freed-is-in-no-recovery}
use Rattle.rc_step_laws.proofs.freed.what_is_freed_is_in_no_recovery.Goals as goal

pub returns : goal.returns
returns c = record {
  rows = recoveries-are-digests;
  heads = heads-are-not-shut;
  left_out = freed-is-left-out;
  not_recovered = freed-is-in-no-recovery;
}
