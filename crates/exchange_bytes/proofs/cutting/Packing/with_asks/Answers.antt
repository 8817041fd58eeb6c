use Rattle.std.proofs.Common.{◌++◌, ◌∷◌, [], refl}
use Rattle.std.specs.FinMap as finmap
use Rattle.exchange_bytes.specs.Cutting.{ask_weight}
use Rattle.exchange_bytes.proofs.Packing.{heavier_same, join_nothing, says_in, says_same, weight_push}
use Rattle.exchange_bytes.proofs.cutting.Packing.with_asks.Goals as goal

pub loop-ask-init : goal.loop-ask-init
loop-ask-init c = record { says = says_same c.args.self; heavier = record { weighs = heavier_same c.args.self }; small = λ room. room }

pub loop-ask-preserved : goal.loop-ask-preserved
loop-ask-preserved c = record {
  says = says_in c.args.self c.loop-ask.open c.in_ok-open.open [] [] [] c.loop-ask.yielded (c.in-Some.ask ∷ []) (c.loop-ask.yielded ++ c.in-Some.ask ∷ []) finmap.empty finmap.empty finmap.empty c.loop-ask.invariant.says c.in_ok-open.ensures.says refl refl (join_nothing finmap.empty);
  heavier = record { weighs = weight_push c.args.self c.loop-ask.open c.in_ok-open.open ask_weight c.loop-ask.yielded c.in-Some.ask c.loop-ask.invariant.heavier.weighs c.in_ok-open.ensures.heavier };
  small = λ room. c.in_ok-open.ensures.small (c.loop-ask.invariant.small room);
}
