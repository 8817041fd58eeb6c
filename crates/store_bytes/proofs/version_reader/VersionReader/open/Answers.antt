use Rattle.store_bytes.proofs.Steps.{versions_begin, versions_begin_not}
use Rattle.store_bytes.proofs.version_reader.VersionReader.open.Goals as goal

pub returns-clause-all : goal.returns-clause-all
returns-clause-all c = versions_begin c.args.bytes.now c.begin.result c.begin.ensures.begun

pub returns-clause-fault : goal.returns-clause-fault
returns-clause-fault c = versions_begin_not c.args.bytes.now c.begin.result c.begin.ensures.begun
