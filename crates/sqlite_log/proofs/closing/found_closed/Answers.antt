use Rattle.sqlite_log.proofs.Found.{found_rows, image_alone}
use Rattle.sqlite_log.proofs.closing.found_closed.Goals as goal

pub returns-clause-both : goal.returns-clause-both
returns-clause-both g c head rows peers image held is found =
    found_rows image c.args.later.now.inside.conn held.trees head rows peers held.heads held.holds held.knows (image_alone g.D.Disk c.args.files.now head rows peers held image is).both found

pub returns-clause-alone : goal.returns-clause-alone
returns-clause-alone g c head rows peers image held is found =
    found_rows _ c.args.later.now.inside.conn held.trees head rows peers held.heads held.holds held.knows (image_alone g.D.Disk c.args.files.now head rows peers held image is).alone found
