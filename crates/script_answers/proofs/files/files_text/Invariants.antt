use Rattle.std.proofs.Common.{◌++◌, ◌≡◌}
use Rattle.script_answers.proofs.Prelude.{content_at, entry_lines, file_bytes, file_lines, flat_map, take}
use Rattle.script_answers.proofs.files.files_text.Given as goal

abbrev pub invariant-loop-placed : goal.invariant-loop-placed
invariant-loop-placed l = l.out.items ≡ file_lines l.fragment (file_bytes (content_at l.view l.fragment)) ++ flat_map (entry_lines l.view) (take l.placed-index l.dropins)
