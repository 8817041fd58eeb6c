use Rattle.script_commands.proofs.{Contents.{file_refused}, Prelude.{Global, IsBadText, MatchOption, Option, Spells, subst, Vec, ℕ}}
use Rattle.script_commands.proofs.place_words.read_file.Goals as goal

pub returns-in-Err : goal.returns-in-Err
returns-in-Err c =
    let spelled = subst (λ (o : Option (Vec ℕ Global)). MatchOption o (IsBadText c.args.text.now) (λ bytes. Spells c.args.text.now bytes.items)) c.in-Some.is c.in_ok-bytes.ensures.bytes in
    record { read = rw c.from.ensures (file_refused c.args.text.now c.in-Some.bytes.items spelled c.in-Err.fault c.in-Err.ensures.made) }
