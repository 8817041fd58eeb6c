use Rattle.fleet_script.proofs.{Lines.{executed}, Prelude.{ap, Ask, Cat, Crowd, Files, kept_in, Link, Merge, Node, Ok, Part, Put, Remove, Same, Send, Sweep, sym, Text, Workers, ◌∙◌}}
use Rattle.fleet_script.proofs.states.Shell.execute.Goals as goal
use Rattle.script_commands.specs.declared.commands.Command.TheVariants as command

pub returns-in-Node : goal.returns-in-Node
returns-in-Node g c = record { done = executed (kept_in c.args.self.now) (kept_in c.node.new.self) c.args.line.now (Node c.in-Node.name c.in-Node.writer) c.node.result (ap Ok (sym c.in-Node.is) ∙ c.in_ok-name.ensures.command) (rw c.as_slice.ensures.bytes at c.node.ensures.done) }

pub returns-in-Put : goal.returns-in-Put
returns-in-Put g c = record { done = executed (kept_in c.args.self.now) (kept_in c.put.new.self) c.args.line.now (Put c.in-Put.node c.in-Put.place c.in-Put.text) c.put.result (ap Ok (sym c.in-Put.is) ∙ c.in_ok-name.ensures.command) (rw c.as_slice-in-Put-3.ensures.bytes at (rw c.as_slice-in-Put-2.ensures.bytes at (rw c.as_slice-in-Put.ensures.bytes at c.put.ensures.done))) }

pub returns-in-Remove : goal.returns-in-Remove
returns-in-Remove g c = record { done = executed (kept_in c.args.self.now) (kept_in c.remove.new.self) c.args.line.now (Remove c.in-Remove.node c.in-Remove.place) c.remove.result (ap Ok (sym c.in-Remove.is) ∙ c.in_ok-name.ensures.command) (rw c.as_slice-in-Remove-2.ensures.bytes at (rw c.as_slice-in-Remove.ensures.bytes at c.remove.ensures.done)) }

pub returns-in-Merge : goal.returns-in-Merge
returns-in-Merge g c = record { done = executed (kept_in c.args.self.now) (kept_in c.merge.new.self) c.args.line.now (Merge c.in-Merge.from c.in-Merge.to) c.merge.result (ap Ok (sym c.in-Merge.is) ∙ c.in_ok-name.ensures.command) (rw c.as_slice-in-Merge-2.ensures.bytes at (rw c.as_slice-in-Merge.ensures.bytes at c.merge.ensures.done)) }

pub returns-in-Files : goal.returns-in-Files
returns-in-Files g c = record { done = executed (kept_in c.args.self.now) (kept_in c.args.self.now) c.args.line.now (Files c.in-Files.node) c.files.result (ap Ok (sym c.in-Files.is) ∙ c.in_ok-name.ensures.command) (rw c.as_slice-in-Files.ensures.bytes at c.files.ensures.done) }

pub returns-in-Same : goal.returns-in-Same
returns-in-Same g c = record { done = executed (kept_in c.args.self.now) (kept_in c.args.self.now) c.args.line.now (Same c.in-Same.left c.in-Same.right) c.same.result (ap Ok (sym c.in-Same.is) ∙ c.in_ok-name.ensures.command) (rw c.as_slice-in-Same-2.ensures.bytes at (rw c.as_slice-in-Same.ensures.bytes at c.same.ensures.done)) }

pub returns-in-Link : goal.returns-in-Link
returns-in-Link g c = record { done = executed (kept_in c.args.self.now) (kept_in c.link.new.self) c.args.line.now (Link c.in-Link.node c.in-Link.place c.in-Link.target) c.link.result (ap Ok (sym c.in-Link.is) ∙ c.in_ok-name.ensures.command) (rw c.as_slice-in-Link-3.ensures.bytes at (rw c.as_slice-in-Link-2.ensures.bytes at (rw c.as_slice-in-Link.ensures.bytes at c.link.ensures.done))) }

pub returns-in-Part : goal.returns-in-Part
returns-in-Part g c = record { done = executed (kept_in c.args.self.now) (kept_in c.part.new.self) c.args.line.now (Part c.in-Part.piece c.in-Part.from c.in-Part.to c.in-Part.places) c.part.result (ap Ok (sym c.in-Part.is) ∙ c.in_ok-name.ensures.command) (rw c.as_slice-in-Part-3.ensures.bytes at (rw c.as_slice-in-Part-2.ensures.bytes at (rw c.as_slice-in-Part.ensures.bytes at c.part.ensures.done))) }

pub returns-in-Send : goal.returns-in-Send
returns-in-Send g c = record { done = executed (kept_in c.args.self.now) (kept_in c.send.new.self) c.args.line.now (Send c.in-Send.piece c.in-Send.node) c.send.result (ap Ok (sym c.in-Send.is) ∙ c.in_ok-name.ensures.command) (rw c.as_slice-in-Send-2.ensures.bytes at (rw c.as_slice-in-Send.ensures.bytes at c.send.ensures.done)) }

pub returns-in-Sweep : goal.returns-in-Sweep
returns-in-Sweep g c = record { done = executed (kept_in c.args.self.now) (kept_in c.sweep.new.self) c.args.line.now Sweep c.sweep.result (ap Ok (sym c.in-Sweep.is) ∙ c.in_ok-name.ensures.command) c.sweep.ensures.done }

pub returns-in-Text : goal.returns-in-Text
returns-in-Text g c = record { done = executed (kept_in c.args.self.now) (kept_in c.args.self.now) c.args.line.now (Text c.in-Text.node c.in-Text.place) c.text.result (ap Ok (sym c.in-Text.is) ∙ c.in_ok-name.ensures.command) (rw c.as_slice-in-Text-2.ensures.bytes at (rw c.as_slice-in-Text.ensures.bytes at c.text.ensures.done)) }

pub returns-in-Cat : goal.returns-in-Cat
returns-in-Cat g c = record { done = executed (kept_in c.args.self.now) (kept_in c.args.self.now) c.args.line.now (Cat c.in-Cat.node c.in-Cat.host c.in-Cat.unit) c.cat.result (ap Ok (sym c.in-Cat.is) ∙ c.in_ok-name.ensures.command) (rw c.as_slice-in-Cat-2.ensures.bytes at (rw c.as_slice-in-Cat.ensures.bytes at c.cat.ensures.done)) }

pub returns-in-Ask : goal.returns-in-Ask
returns-in-Ask g c = record { done = executed (kept_in c.args.self.now) (kept_in c.ask.new.self) c.args.line.now (Ask c.in-Ask.node c.in-Ask.host c.in-Ask.inquiry) c.ask.result (ap Ok (sym c.in-Ask.is) ∙ c.in_ok-name.ensures.command) (rw c.as_slice-in-Ask.ensures.bytes at c.ask.ensures.done) }

pub returns-in-Workers : goal.returns-in-Workers
returns-in-Workers g c = record { done = executed (kept_in c.args.self.now) (kept_in c.workers.new.self) c.args.line.now (Workers c.in-Workers.count) c.workers.result (ap Ok (sym c.in-Workers.is) ∙ c.in_ok-name.ensures.command) c.workers.ensures.done }

pub returns-in-Profile : goal.returns-in-Profile
returns-in-Profile g c = record { done = executed (kept_in c.args.self.now) (kept_in c.profile.new.self) c.args.line.now (command.Profile c.in-Profile.profile) c.profile.result (ap Ok (sym c.in-Profile.is) ∙ c.in_ok-name.ensures.command) c.profile.ensures.done }

pub returns-in-Crowd : goal.returns-in-Crowd
returns-in-Crowd g c = record { done = executed (kept_in c.args.self.now) (kept_in c.args.self.now) c.args.line.now (Crowd c.in-Crowd.node c.in-Crowd.seats c.in-Crowd.edits) c.crowd.result (ap Ok (sym c.in-Crowd.is) ∙ c.in_ok-name.ensures.command) (rw c.as_slice-in-Crowd.ensures.bytes at c.crowd.ensures.done) }
