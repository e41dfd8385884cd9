-- Each kind stands at its number among all kinds.
use Rattle.std.proofs.Common.{◌≡◌, Some, slice_get, refl, sym, ap, ◌∙◌}
use Rattle.rc_types.specs.declared.messages.Kind.{Kind}
use Rattle.rc_types.specs.declared.messages.Kind.TheVariants as kind
use Rattle.rc_types.specs.Kinds.{all_kinds, kind_number}

placed : (k : Kind) → slice_get all_kinds (kind_number k) ≡ Some k
placed kind.Write = refl
placed _ = refl

pub same_place : (one other : Kind) → kind_number one ≡ kind_number other → one ≡ other
same_place one other same = let both : Some one ≡ Some other = sym (placed one) ∙ ap (slice_get all_kinds) same ∙ placed other in cc
