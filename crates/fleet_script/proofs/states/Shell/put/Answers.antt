use Rattle.fleet_script.proofs.{Goes.{with_file, with_site}, Prelude.{kept_in, Writes}}
use Rattle.fleet_script.proofs.states.Shell.put.Goals as goal

pub returns-clause-done : goal.returns-clause-done
returns-clause-done c =
    with_site (kept_in c.args.self.now) (kept_in c.write.new.self) c.write.result c.args.node.now c.args.place.now c.in_ok-at.at c.in_ok-at.place _ c.in_ok-at.ensures.found
    (with_file (kept_in c.args.self.now) (kept_in c.write.new.self) c.write.result c.args.text.now c.in_ok-read_file.field-0
    (λ content old outcome new. Writes old outcome new c.in_ok-at.at c.in_ok-at.place content) c.in_ok-read_file.ensures.read c.write.ensures.done)
