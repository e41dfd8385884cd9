use Rattle.rc_owner_laws.proofs.Laws.{facts-cut-data, facts-start-grants, facts-keep-what-is-safe}
use Rattle.rc_owner_laws.proofs.Laws.{facts-keep-what-was-acknowledged, facts-let-versions-rise}
use Rattle.rc_owner_laws.proofs.facts.facts_suffice.Goals as goal

pub returns : goal.returns
returns c = record {
  cut = facts-cut-data;
  starts = facts-start-grants;
  safe = facts-keep-what-is-safe;
  acknowledged = facts-keep-what-was-acknowledged;
  rises = facts-let-versions-rise;
}
