use Rattle.std.proofs.Common.{take}
use Rattle.std.specs.Io.KnownBytes.{Appends}
use Rattle.node_exchange.specs.Streams.{on_stream}
use Rattle.node_exchange.proofs.saying.write_frames.Given as goal

abbrev pub invariant-loop-frame : goal.invariant-loop-frame
invariant-loop-frame g l = Appends (g.K.Sink.contents l.fn.sink) (g.K.Sink.contents l.sink) (on_stream (take l.frame-index l.frames))
