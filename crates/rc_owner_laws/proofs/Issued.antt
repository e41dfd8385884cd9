-- Whatever was sent of a term is one and the same.
use Rattle.std.proofs.Common.{arith}
use Rattle.std.proofs.Common.{◌≡◌, ◌⊎◌, ℕ, List, refl, sym, ap, ◌∙◌, inl, inr}
use Rattle.rc_model.specs.Model.{ServerId, Addr, Server, Grant, Message, Body, Own, Decision, GivenPart, replay, In}
use Rattle.rc_types.specs.declared.messages.Body.TheVariants.{Plan as PlanBody}
use Rattle.rc_model.specs.Coordinator.{Coordinator}
use Rattle.rc_owner_laws.specs.Grants.{IsDecided, own_said, GrantsKept}
use Rattle.rc_owner_laws.proofs.OwnerReplays.{grants-world}
use Rattle.rc_owner_laws.specs.Terms.{IsGivenBy, GoodTerms}
use Rattle.rc_owner_laws.specs.TermClaims.{Issue, issue_of, issues_in, WasIssued, TermsAreIssuedOnce}
use Rattle.rc_owner_laws.proofs.TermReplays.{terms-world}
use Rattle.rc_model.proofs.Members.{In-map}

-- the issue of a grant
abbrev pub of_grant : Grant → Issue
of_grant grant = record {
  term = grant.term;
  to = Server grant.owner;
  range = grant.range;
  previous = grant.previous;
  attempt = grant.attempt;
}

-- an issue is of a new table's grant, or of a part of a decision
record OfTable (c : Coordinator) (issue : Issue) : Type 0 where
  grant : Grant
  among : In grant c.grants
  created : grant.attempt ≡ 0
  is : issue ≡ of_grant grant

record OfPart (c : Coordinator) (issue : Issue) : Type 0 where
  number : ℕ
  master : ServerId
  decision : Decision
  decided : IsDecided c.attempts number master decision
  given : GivenPart
  among : In given decision.parts
  is : issue ≡ issue_of (Server given.to) number given.part

module _ (sent : List Message) (c : Coordinator) (good : GoodTerms sent c) (kept : GrantsKept sent c) where
  of-grant : (grant : Grant) → In grant c.grants → OfTable c (of_grant grant) ⊎ OfPart c (of_grant grant)
  of-grant grant at = by (good.origin grant at)
    where
      by : ((grant.attempt ≡ 0) × (grant.previous ≡ 0)) ⊎ IsGivenBy sent c grant → OfTable c (of_grant grant) ⊎ OfPart c (of_grant grant)
      by (inl created) = inl (record { grant = grant; among = at; created = created.0; is = refl })
      by (inr p) = inr (record {
        number = grant.attempt;
        master = p.master;
        decision = p.decision;
        decided = p.decided;
        given = record { to = grant.owner; part = p.part };
        among = p.among;
        is = λ i. record {
          term = p.term_is i;
          to = Server grant.owner;
          range = p.range_is i;
          previous = p.previous_is i;
          attempt = grant.attempt;
        };
      })

  of-body : (to : Addr) (says : Body) (issue : Issue) → own_said c to says → In issue (issues_in to says) → OfTable c issue ⊎ OfPart c issue
  of-body to (Own range term before attempt) issue own at = search (arith, of-grant)
  of-body to (PlanBody head number master rows parts) issue plan at =
      let found = In-map (issue_of to number) issue parts at in
      inr (record {
        number = number;
        master = master;
        decision = plan.decision;
        decided = plan.decided;
        given = record { to = plan.id; part = found.0 };
        among = plan.given found.0 found.1;
        is = found.2 ∙ ap (λ (addr : Addr). issue_of addr number found.0) plan.to_is;
      })
  of-body to _ issue own at = absurd at

  issued-once : {one other : Issue} → OfTable c one ⊎ OfPart c one → OfTable c other ⊎ OfPart c other → one.term ≡ other.term → one ≡ other
  issued-once (inl p) (inl q) e =
      p.is ∙ ap of_grant (good.grant_once p.grant q.grant p.among q.among (ap (λ (i : Issue). i.term) (sym p.is) ∙ e ∙
      ap (λ (i : Issue). i.term) q.is)) ∙ sym q.is
  issued-once (inl p) (inr q) e =
      absurd (good.created_apart p.grant p.among p.created q.number q.master q.decision q.decided q.given q.among
      (ap (λ (i : Issue). i.term) (sym q.is) ∙ sym e ∙ ap (λ (i : Issue). i.term) p.is))
  issued-once (inr p) (inl q) e =
      absurd (good.created_apart q.grant q.among q.created p.number p.master p.decision p.decided p.given p.among
      (ap (λ (i : Issue). i.term) (sym p.is) ∙ e ∙ ap (λ (i : Issue). i.term) q.is))
  issued-once (inr p) (inr q) e =
      let once = good.part_once p.number q.number p.master q.master p.decision q.decision p.given q.given p.decided
      p.among q.decided q.among (ap (λ (i : Issue). i.term) (sym p.is) ∙ e ∙ ap (λ (i : Issue). i.term) q.is) in
      p.is ∙ ap (λ (given : GivenPart). issue_of (Server given.to) p.number given.part) once.1
      ∙ ap (λ n. issue_of (Server q.given.to) n q.given.part) once.0 ∙ sym q.is

  pub once-issued : (one other : Issue) → WasIssued sent one → WasIssued sent other → one.term ≡ other.term → one ≡ other
  once-issued one other p q e =
      issued-once (of-body p.message.to p.message.body one (kept.known p.message p.among) p.says)
      (of-body q.message.to q.message.body other (kept.known q.message q.among) q.says) e

pub terms-are-issued-once : TermsAreIssuedOnce
terms-are-issued-once setup events = once-issued (replay setup events).sent (replay setup events).coordinator
    (terms-world setup events) (grants-world setup events).kept
