-- What the definitions use of std and of the crates below.
pub use Rattle.edit_sums.specs.{declared.contents.{Content.{Content, TheVariants.{File, Link}}, ContentFault.{ContentFault}}, Limits.{is_file, is_target}, Prelude.{PlaceParts}}
pub use Rattle.load_places.specs.{declared.{hosts.HostFault.{HostFault}, places.PlaceFault.{PlaceFault}}, Hosts.{host_of}, Texts.{place_of}}
pub use Rattle.profiles.specs.declared.profiles.Profile.{Profile, TheVariants.{Files, Manager}}
pub use Rattle.replica_store.specs.declared.replicas.EditFault.{EditFault}
pub use Rattle.script_words.specs.{Names.{is_name}, Numbers.{number_of}, NumbersLaws.{number_of-decimal}, Text.{IsBadText, Spells}, Words.{IsWord, spaced, text_after, words_of}, WordsLaws.{text_after-last, text_after-spaced, words_of-nil, words_of-spaced, words_of-word, words_of-word_space}}
pub use Rattle.std.{proofs.{Common.{[], All, ap, append_assoc, arith, Bool, codes, cond, drop, Err, false, inl, inr, length, length-append, List, nat_le, nat_lt, None, not, Ok, Option, refl, Result, rules, Some, subst, suc, sym, take, true, ℕ, ◌∙◌}, lemmas.{Bool.{and_from, and_parts, cond-false, cond-true, Decides.{nat_tests}, eqb-true, le-leb, leb-true, ne_eqb, true≢false}, Fmt.{decimal_nonempty, digits_decimal, length-decimal-le}, List.Elements.{All-append, All-cons, All-from_recursion, recursion_from_All}, Slice.Eq.{bytes_eq-Decides}, Str.Parse.{IsDigitsTest, numerals_by_value}}}, specs.{Char.{is_ascii_alphanumeric, is_ascii_digit}, Fmt.{decimal}, List.{after_first, AllByRecursion, before_first, join_with_byte, list_all, list_any, position_or_len}, Prelude.{⊤}, Str.{bytes_eq}}}
pub use Rattle.unit_name.specs.declared.names.NameFault.{NameFault}
