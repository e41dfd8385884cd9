-- What follows where all facts hold.
use Rattle.std.proofs.Common.{arith}
use Rattle.std.proofs.Common.{◌≡◌, ◌⊎◌, ℕ, List, sym, ap, ◌∙◌, subst, inl, inr}
use Rattle.rc_model.specs.Model.{ServerId, Message, Granted, granted, Master, HostNode}
use Rattle.rc_model.specs.Coordinator.{Coordinator}
use Rattle.rc_model.proofs.Members.{In-get}
use Rattle.rc_owner_laws.specs.Terms.{IsGivenBy}
use Rattle.rc_owner_laws.specs.Worlds.{AllHold}
use Rattle.rc_owner_laws.specs.Words.{StartsFromBase}
use Rattle.rc_owner_laws.specs.VersionClaims.{MayFree, GrantsStart, FactsCutData, FactsStartGrants, FactsKeepWhatIsSafe}
use Rattle.rc_owner_laws.specs.VersionClaims.{FactsKeepWhatWasAcknowledged, FactsLetVersionsRise}
use Rattle.rc_owner_laws.proofs.Rising.{granted_of, IsRemembered, remembered, covers-anyhow, versions-rise}
use Rattle.rc_owner_laws.proofs.VersionCuts.{data-is-cut, starts-from-base}
use Rattle.rc_owner_laws.proofs.Kept.{later-keeps, later-keeps-acked}

grants-start : (sent : List Message) (masters : ServerId → Master) (hosts : ℕ → HostNode) (c : Coordinator) →
    AllHold sent masters hosts c → GrantsStart sent masters
grants-start sent masters hosts c all grant x was to recovered =
    subst (λ y. StartsFromBase sent y (masters y).log grant) owner
    (subst (StartsFromBase sent r.grant.owner (masters r.grant.owner).log) (sym r.is)
    (by (all.terms.origin r.grant r.among)))
  where
    r : IsRemembered c grant
    r = remembered c sent all.kept.known grant (In-get (granted sent) was.0 grant was.1)

    owner : r.grant.owner ≡ x
    owner = search (arith, r)

    by : ((r.grant.attempt ≡ 0) × (r.grant.previous ≡ 0)) ⊎ IsGivenBy sent c r.grant →
        StartsFromBase sent r.grant.owner (masters r.grant.owner).log (granted_of r.grant)
    by (inl created) = absurd (recovered (ap (λ (g : Granted). g.attempt) r.is ∙ created.0))
    by (inr given) = starts-from-base sent masters hosts c all given

pub facts-cut-data : FactsCutData
facts-cut-data = data-is-cut

pub facts-start-grants : FactsStartGrants
facts-start-grants = grants-start

pub facts-keep-what-is-safe : FactsKeepWhatIsSafe
facts-keep-what-is-safe sent masters hosts c all = later-keeps sent masters hosts c all MayFree (covers-anyhow sent masters hosts c all)

pub facts-keep-what-was-acknowledged : FactsKeepWhatWasAcknowledged
facts-keep-what-was-acknowledged sent masters hosts c all =
    later-keeps-acked sent masters hosts c all MayFree (covers-anyhow sent masters hosts c all)

pub facts-let-versions-rise : FactsLetVersionsRise
facts-let-versions-rise = versions-rise
