use Rattle.std.proofs.Common.{◌∙◌, ap, sym}
use Rattle.std.specs.Int.{to_be_bytes, w32}
use Rattle.node_exchange.proofs.Talking.{frame_read}
use Rattle.node_exchange.proofs.reading.read_frame.Goals as goal

pub returns-clause-read : goal.returns-clause-read
returns-clause-read g c =
    let found = c.in_ok-frame_from_bytes.ensures.found in
    frame_read (g.S.Source.remaining c.args.source.now) (g.S.Source.remaining c.read_length.new.source) (g.S.Source.remaining c.read_bytes.new.source) c.in_ok-frame_from_bytes.field-0 (to_be_bytes w32 c.in_ok-len.len) c.in_ok-bytes.bytes.items
    (sym c.deref.ensures.value ∙ found.1) (ap (to_be_bytes w32) (sym c.in_ok-bytes.ensures.len)) c.in_ok-len.ensures.read c.in_ok-bytes.ensures.read
