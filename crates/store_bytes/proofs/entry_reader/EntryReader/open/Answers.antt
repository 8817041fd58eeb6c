use Rattle.store_bytes.proofs.Steps.{entries_begin, entries_begin_not}
use Rattle.store_bytes.proofs.entry_reader.EntryReader.open.Goals as goal

pub returns-clause-all : goal.returns-clause-all
returns-clause-all c = entries_begin c.args.kind c.args.bytes.now c.begin.result c.begin.ensures.begun

pub returns-clause-fault : goal.returns-clause-fault
returns-clause-fault c = entries_begin_not c.args.kind c.args.bytes.now c.begin.result c.begin.ensures.begun
