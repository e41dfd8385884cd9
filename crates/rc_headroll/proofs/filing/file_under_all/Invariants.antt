use Rattle.std.proofs.Common.{◌≡◌, ℕ, true, take}
use Rattle.std.specs.List.{list_all}
use Rattle.rc_types.specs.declared.ids.ServerId.{ServerId}
use Rattle.rc_headroll.specs.Watching.{is_under}
use Rattle.rc_headroll.proofs.filing.file_under_all.Given as goal

-- it is filed under the members so far
abbrev pub invariant-loop-member : goal.invariant-loop-member
invariant-loop-member l = record {
  filed : list_all (λ member. is_under l.filed.entries member.id l.seg) (take l.member-index l.members) ≡ true;
  others : (id : ServerId) (other : ℕ) → is_under l.fn.filed.entries id other ≡ true → is_under l.filed.entries id other ≡ true;
}
