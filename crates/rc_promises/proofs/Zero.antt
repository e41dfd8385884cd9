-- What a read shows at version 0 is nothing: each entry comes from a client's place, and versions begin at 1 there.
use Rattle.std.proofs.Common.{◌≡◌, ◌≢◌, ◌⊎◌, inl, inr, ℕ, ◌<◌, List, Option, Some, None, sym, ap, ◌∙◌, arith}
use Rattle.rc_model.specs.Model.{ServerId, Setup, Event, Found, read_of, term_of, durable_entries, factor_of, replay}
use Rattle.rc_promises.proofs.Asked.{clients-begin-at-one}
use Rattle.rc_promises.proofs.Found.{IsFound, read-ways}
use Rattle.rc_owner_laws.proofs.VersionReplays.{all-world}
use Rattle.rc_promises.proofs.Stood.{IsShowing, found-stood}
use Rattle.rc_promises.proofs.Origin.{Origin, origin}

module _ (setup : Setup) (past rest : List Event) (m : ServerId) (some : factor_of setup m.index ≢ 0)
    (term table key version : ℕ) (value : Option (List ℕ))
    (owns : term_of ((replay setup past).masters m).ownership table key ≡ Some term)
    (found : ◌≡◌ {A = Found} (read_of term table key (durable_entries ((replay setup past).masters m)))
    (record { version = version; value = value })) where
  pub shows-none : version ≡ 0 → value ≡ None
  shows-none none = by (read-ways term table key)
    where
      by : (read_of term table key (durable_entries ((replay setup past).masters m)) ≡ record { version = 0; value = None })
          ⊎ IsFound term table key (durable_entries ((replay setup past).masters m))
          (read_of term table key (durable_entries ((replay setup past).masters m))) → value ≡ None
      by (inl nothing) = sym (ap (λ (one : Found). one.value) found) ∙ ap (λ (one : Found). one.value) nothing
      by (inr one) = absurd (omega (arith, above, came.version_is, is.version_is, none))
        where
          is : IsShowing setup past rest m some term table key version value owns found
          is = found-stood setup past rest m some term table key version value owns found one

          came : Origin (replay setup past).sent (replay setup past).masters (replay setup past).hosts
              (replay setup past).coordinator (all-world setup past) m is.stood.seg is.stood.offset is.entry
          came = search (arith, origin, all-world, is)

          above : 0 < came.place.entry.version
          above = clients-begin-at-one setup past came.x came.place came.among came.client
