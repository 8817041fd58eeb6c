use Rattle.std.proofs.Common.{◌≡◌}
use Rattle.implied_names.proofs.Prelude.{before_first, is_equals, map}
use Rattle.implied_names.proofs.mounts.option_heads.Given as goal

abbrev pub invariant-loop-part : goal.invariant-loop-part
invariant-loop-part l = map (λ option. option.now) l.options.items ≡ map (before_first is_equals) (map (λ part. part.now) l.yielded)
