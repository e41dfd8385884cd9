use Rattle.std.proofs.Common.{rules, ◌≡◌, refl, not}
use Rattle.std.proofs.lemmas.Map.Entries.{filter_from_retain_pairs}
use Rattle.rc_model.specs.ServerList.{has_crashed}
use Rattle.rc_headroll.proofs.filing.forget_crashed.Goals as goal

pub returns : goal.returns
returns c =
    filter_from_retain_pairs _ (λ f. f.0.now ≡ c.args.servers.now) (λ entry. not (has_crashed c.args.servers.now entry.0))
    (λ g k v b w g' i t. search rules) _ c.args.filed.now.entries c.retain.new.self.entries refl c.retain.ensures.filtered
