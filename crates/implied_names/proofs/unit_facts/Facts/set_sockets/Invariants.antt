use Rattle.std.proofs.Common.{◌≡◌}
use Rattle.implied_names.proofs.Prelude.{filter, is_socket_word, map}
use Rattle.implied_names.proofs.unit_facts.Facts.set_sockets.Given as goal

abbrev pub invariant-loop-word : goal.invariant-loop-word
invariant-loop-word l = map (λ text. text.items) l.texts.items ≡ filter is_socket_word (map (λ word. word.now) l.yielded)
