use Rattle.std.proofs.Common.{◌++◌, ◌∷◌, [], refl}
use Rattle.std.specs.FinMap as finmap
use Rattle.exchange_bytes.specs.Cutting.{print_weight}
use Rattle.exchange_bytes.proofs.Packing.{heavier_same, join_nothing, says_in, says_same, weight_push}
use Rattle.exchange_bytes.proofs.cutting.Packing.with_prints.Goals as goal

pub loop-print-init : goal.loop-print-init
loop-print-init c = record { says = says_same c.args.self; heavier = record { weighs = heavier_same c.args.self }; small = λ room. room }

pub loop-print-preserved : goal.loop-print-preserved
loop-print-preserved c = record {
  says = says_in c.args.self c.loop-print.open c.in_ok-open.open c.loop-print.yielded (c.in-Some.print ∷ []) (c.loop-print.yielded ++ c.in-Some.print ∷ []) [] [] [] finmap.empty finmap.empty finmap.empty c.loop-print.invariant.says c.in_ok-open.ensures.says refl refl (join_nothing finmap.empty);
  heavier = record { weighs = weight_push c.args.self c.loop-print.open c.in_ok-open.open print_weight c.loop-print.yielded c.in-Some.print c.loop-print.invariant.heavier.weighs c.in_ok-open.ensures.heavier };
  small = λ room. c.in_ok-open.ensures.small (c.loop-print.invariant.small room);
}
