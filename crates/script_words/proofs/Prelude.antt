-- What the proofs use of std, of the crates below and of the definitions.
pub use Rattle.bstr.specs.Find.{is_byte, IsFirstByte}
pub use Rattle.list_laws.specs.{Cuts.{All-take_before, cut_around}, Lines.{lines-cut_at, lines-cut_nowhere}}
pub use Rattle.script_words.specs.{LinesLaws.{lines_of-last, lines_of-line_feeds, lines_of-nil, lines_of-returns}, NumbersLaws.{number_of-decimal}, Prelude.{AllByRecursion, HasNoLineFeed, IsPlainLine}, Text.{backslash, byte_read, escape_read, hex_read, IsBadText, IsSpelling, itself, line_feed, tab, two_digits}, TextLaws.{none_read, same_read, spells_doubled, spells_none, spells_one, spells_plain, spells_read}, Words.{is_space, IsWord, skip_spaces, skip_word, spaced, text_after, words_of}, WordsLaws.{skip_spaces-other, skip_spaces-space, text_after-last, text_after-spaced, words_of-nil, words_of-space, words_of-spaced, words_of-word, words_of-word_space}}
pub use Rattle.std.{proofs.{Common.{[], add-one, All, ap, append-nil, append_assoc, arith, Bool, cond, drop, false, get_or, inl, inr, length, List, None, not, Option, refl, Some, subst, sym, take, true, ℕ, ⊎_elim, ◌∙◌}, lemmas.{Bool.{and_parts, cases_Bool, cases_lt, cond-false, cond-true, Decides.{nat_tests}, eq-eqb, eqb-false, eqb-true, false_from_ne_true, ltb-true, ne_eqb, true≢false}, Int.Digits.{digits_value_more}, List.{drop_all, drop_more, Elements.{recursion_from_All}, Folds.{list_all_at}, length-drop, length-take-le, nil_from_length, Sums.{fails_before_first, passes_at_first, position_or_len_is, prefix_len-le-length}, take_all, take_rest}}, Math.Nat.{pow-suc}}, specs.{Char.{digit_value, is_ascii_digit}, List.{list_all, position_or_len, prefix_len}, Option.{unwrap_or}, Str.Parse.{digits_value}}}
