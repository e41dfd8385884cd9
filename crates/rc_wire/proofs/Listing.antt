-- The steps of the workload, as they are added one by one.
use Rattle.std.proofs.Common.{◌≡◌, ℕ, suc, ◌+◌, List, [], ap, ◌∙◌, arith}
use Rattle.rc_types.specs.declared.ids.ServerId.{ServerId}
use Rattle.rc_model.specs.World.{TheOutside, TheCoordinator, TheHost}
use Rattle.rc_wire.specs.declared.work.Work.{Work}
use Rattle.rc_wire.specs.declared.work.Work.TheVariants as work
use Rattle.rc_types.specs.declared.events.Order.TheVariants as order
use Rattle.rc_wire.specs.declared.steps.Step.{Step}
use Rattle.rc_wire.specs.declared.steps.Step.TheVariants.{Do, Settle}
use Rattle.rc_wire.specs.Workload.{push, owner, starts, created, write_of, asks, workload, told}

pub starts-more : (host : ℕ) (steps more : List Step) (kept : List (ServerId × ℕ)) → steps ≡ starts host → kept ≡ [] →
    more ≡ push steps (Do (TheHost host) (work.Start kept)) → more ≡ starts (host + 1)
starts-more host steps more kept are none is =
    let one : suc host ≡ host + 1 = omega arith in
    is
    ∙ (ap (λ (l : List Step). push l (Do (TheHost host) (work.Start kept))) are
    ∙ (ap (λ (k : List (ServerId × ℕ)). push (starts host) (Do (TheHost host) (work.Start k))) none ∙ ap starts one))

pub created-after : (hosts host : ℕ) (begun settled made all : List Step) → begun ≡ starts host → host ≡ hosts →
    settled ≡ push begun Settle → made ≡ push settled (told (order.Create 1 owner)) → all ≡ push made Settle →
    all ≡ created hosts
created-after hosts host begun settled made all are last settles makes is =
    is
    ∙ ap (λ (l : List Step). push l Settle)
    (makes
    ∙ ap (λ (l : List Step). push l (told (order.Create 1 owner)))
    (settles ∙ ap (λ (l : List Step). push l Settle) (are ∙ ap starts last)))

pub asks-more : (hosts key number : ℕ) (steps more : List Step) (write : Work) → steps ≡ asks hosts key → write ≡ write_of number →
    number ≡ key → more ≡ push steps (Do TheOutside write) → more ≡ asks hosts (key + 1)
asks-more hosts key number steps more write are writes same is =
    let one : suc key ≡ key + 1 = omega arith in
    is
    ∙ (ap (λ (l : List Step). push l (Do TheOutside write)) are
    ∙ (ap (λ (w : Work). push (asks hosts key) (Do TheOutside w)) (writes ∙ ap write_of same) ∙ ap (asks hosts) one))

pub workload-after : (hosts writes key : ℕ) (asked settled suspected waited decided all : List Step) → asked ≡ asks hosts key →
    key ≡ writes → settled ≡ push asked Settle → suspected ≡ push settled (told (order.Suspect owner)) →
    waited ≡ push suspected Settle → decided ≡ push waited (told (order.Decide owner)) → all ≡ push decided Settle →
    all ≡ workload hosts writes
workload-after hosts writes key asked settled suspected waited decided all are last settles suspects waits decides is =
    is
    ∙ ap (λ (l : List Step). push l Settle)
    (decides
    ∙ ap (λ (l : List Step). push l (told (order.Decide owner)))
    (waits
    ∙ ap (λ (l : List Step). push l Settle)
    (suspects
    ∙ ap (λ (l : List Step). push l (told (order.Suspect owner)))
    (settles ∙ ap (λ (l : List Step). push l Settle) (are ∙ ap (asks hosts) last)))))
