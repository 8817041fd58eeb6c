use Rattle.section_reader.proofs.{Alike.{blank_lines_change_numbers_alone, comments_change_numbers_alone, continued_lines_are_joined, first_blank_line_changes_numbers_alone}, Comments.{comments_are_marked, marks_change_nothing, whitespace_is_blank}, OneLine.{one_by_one}, Prelude.{IsOneLine, recursion_from_All}, ReadBack.{sections_are_read_back}}
use Rattle.section_reader.proofs.laws.file_laws.Goals as goal

pub returns : goal.returns
returns c = record { comment_sign = comments_are_marked; white = whitespace_is_blank; byte_order_mark = marks_change_nothing; comments = comments_change_numbers_alone; blank_lines = blank_lines_change_numbers_alone; first_blank_line = first_blank_line_changes_numbers_alone; continued = continued_lines_are_joined; lines = λ n texts all. one_by_one n texts (recursion_from_All IsOneLine texts all); sections = sections_are_read_back }
