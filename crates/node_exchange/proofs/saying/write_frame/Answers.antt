use Rattle.std.proofs.Common.{◌≡◌, ◌∙◌, ap, arith, length, subst}
use Rattle.std.specs.Int.{to_be_bytes, w32}
use Rattle.std.specs.Io.KnownBytes.{Appends}
use Rattle.node_exchange.proofs.Talking.{frame_written}
use Rattle.node_exchange.proofs.saying.write_frame.Goals as goal

pub returns-clause-written : goal.returns-clause-written
returns-clause-written g c =
    let start = g.K.Sink.contents c.args.sink.now in
    let mid = g.K.Sink.contents c.write_all.new.sink in
    let end = g.K.Sink.contents c.write_all-2.new.sink in
    let bytes = c.in_ok-bytes.bytes.items in
    let counts : c.to_be_bytes-head.result ≡ to_be_bytes w32 (length bytes) = c.to_be_bytes-head.ensures ∙ ap (to_be_bytes w32) (omega (arith, c.if-len-gt-MOST_BYTES.false, c.len.ensures, c.len-2.ensures)) in
    let second : Appends mid end bytes = subst (λ l. Appends mid end l) c.deref.ensures.value c.in_ok-write_all-2.ensures.ok in
    frame_written start mid end c.args.frame.now c.to_be_bytes-head.result bytes c.in_ok-bytes.ensures.bytes counts c.in_ok-write_all.ensures.ok second
