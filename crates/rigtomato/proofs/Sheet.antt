-- The marked cases, by computation.
use mathlib.Core.Path.{refl}
use Rattle.names.specs.Names.{name_class, is_common_name, is_atom_number, is_made_name, made_name, is_house, is_class_number, allowed}
use Rattle.stores.specs.RuleStore.{encode, rule_at, rules_from, decode}
use Rattle.name_store.specs.NameStore.{same_bytes, encode_names, decode_names}
use Rattle.text.specs.Text.{list_line, open_text, rule_line, text_of}
use Rattle.lines.specs.Lines.{lines, lines_from, line_length}
use Rattle.lines.specs.Tokens.{run, tokens_from, tokens}
use Rattle.conditions.specs.Written.{once, connective_rules}
use Rattle.conditions.specs.Numbers.{unfixed, placed_words, in_file, condition_rules, placing}
use Rattle.conditions.specs.Left.{written_names}
use Rattle.lines.specs.Conditions.{sort_of, words_in, names_in, connectives_in, pairs, deeper, with_and, with_or, ending_of, parse_from, parse}
use Rattle.lines.specs.Forms.{opened_of, split_names, split_list, declared_form, rule_form, split_then, when_form, token_form, typed_form, form_of}
use Rattle.lines.specs.Faults.{twice, name_number, declare, add_rule, add_condition}
use Rattle.restriction.specs.Atoms.{used}
use Rattle.restriction.specs.Remaining.{restrict, remaining, remaining_names}
use Rattle.lines.specs.Strict.{spelled, strict_text}
use Rattle.lines.specs.Said.{kind_of, start, read_lines, placed, typed, said}
use Rattle.names.specs.Numerals.{value}
use Rattle.clauses.specs.Items.{items as clause_items, items_from as clause_items_from, run as clause_run}
use Rattle.clauses.specs.Tokens.{token_of}
use Rattle.clauses.specs.Faults.{header_line, clause_line, step_line}
use Rattle.clauses.specs.Written.{clause_names}
use Rattle.clauses.specs.ClausesSaid.{read_lines as read_clauses, clauses_typed, clauses_said}
use Rattle.pairing.specs.Atoms.{declared}
use Rattle.pairing.specs.Steps.{step1, step2, step3, step4, step5, step6, step7, step8, step9, step10, translation}
use Rattle.pairing.specs.Translated.{translated_rules}
use Rattle.places.specs.Places.{place}
use Rattle.choices.specs.Choices.{is_closed, visited}
use Rattle.rule_index.specs.Index.{rules_with, index}
use Rattle.rule_index.specs.Flip.{broken_rules, flipped, after_flip}
use Rattle.walks.specs.Order.{walk_order, preferred_sets}
use Rattle.walks.specs.Walk.{preferred_walk, stable_walk, candidates, search, capped, preferred_needs, stable_needs, preferred_verdict, stable_verdict, first_state, capped_next, next_needs, next_verdict}
use Rattle.kinds.specs.Words.{digits}
use Rattle.canonical.specs.Order.{numbers}
use Rattle.canonical.specs.Canonical.{compare_lists, compare_rules, tidy, canonical}
use Rattle.canonical.specs.CanonicalProgram.{canonical_program}
use Rattle.answers.specs.Writing.{stores_text}
use Rattle.answers.specs.WritingCanonical.{canonical_text, stores_canonical}
use Rattle.answers.specs.Printed.{state_line, total_line}
use Rattle.answers.specs.Listed.{listing, whole_listing, states_of}
use Rattle.answers.specs.Programs.{printed, states_printed}
use Rattle.rigtomato.specs.Sheet.{rules_a, file_a, typed_a, nine_rules, nine_written, visits, one_class, lamp_first, dark_fixed, nothing, empty_rule, one_rule, unused, unused_long, unused_twice, plain_unused, plain, inverters, clause_file, many_literals, falling, plain_falling, plain_rising, Sheet}

pub sheet : Sheet
unfolding rules_with index broken_rules flipped after_flip rules_a file_a typed_a nine_rules nine_written visits one_class lamp_first dark_fixed nothing empty_rule one_rule unused unused_long unused_twice plain_unused plain inverters clause_file many_literals falling plain_falling plain_rising name_class is_common_name is_atom_number is_made_name made_name is_house is_class_number allowed encode rule_at rules_from decode same_bytes encode_names decode_names list_line open_text rule_line text_of lines lines_from line_length run tokens_from tokens opened_of split_names split_list declared_form rule_form token_form typed_form form_of kind_of spelled strict_text twice name_number declare add_rule add_condition sort_of words_in names_in connectives_in pairs deeper with_and with_or ending_of parse_from parse split_then when_form once connective_rules in_file condition_rules unfixed placed_words placing written_names start read_lines placed typed restrict remaining remaining_names used said value clause_items clause_items_from clause_run token_of header_line clause_line step_line clause_names read_clauses clauses_typed clauses_said declared step1 step2 step3 step4 step5 step6 step7 step8 step9 step10 translation translated_rules place is_closed visited walk_order preferred_sets preferred_walk stable_walk candidates search capped preferred_needs stable_needs preferred_verdict stable_verdict first_state capped_next next_needs next_verdict digits numbers compare_lists compare_rules tidy canonical canonical_program canonical_text stores_text stores_canonical state_line total_line listing whole_listing printed states_of states_printed
sheet = record {
  a_6 = refl;
  a_1 = refl;
  a_0 = refl;
  a_2 = refl;
  a_1_spent = refl;
  a_1_enough = refl;
  a_listed = refl;
  a_from_0 = refl;
  a_from_4 = refl;
  a_from_8 = refl;
  a_6_place = refl;
  plain_2 = refl;
  plain_3 = refl;
  plain_4 = refl;
  inverters_20 = refl;
  one_class_lem = refl;
  lamp_first_holds = refl;
  dark_fixed_holds = refl;
  dark_fixed_1 = refl;
  one_empty_state = refl;
  nothing_counts = refl;
  no_state = refl;
  one_rule_counts = refl;
  unused_listed = refl;
  unused_written = refl;
  unused_counts = refl;
  unused_long_holds = refl;
  unused_twice_holds = refl;
  plain_unused_holds = refl;
  handed_in_written = refl;
  handed_in_counts = refl;
  clauses_written = refl;
  clauses_rules_holds = refl;
  clauses_names_holds = refl;
  clauses_states = refl;
  clauses_5 = refl;
  clauses_1 = refl;
  no_clause_written = refl;
  no_clause = refl;
  empty_clause = refl;
  broken_clause = refl;
  literal_beyond = refl;
  atoms_257 = refl;
  literal_8193 = refl;
  beyond_before_limit = refl;
  broken_before_beyond = refl;
  beyond_line_first = refl;
  surplus_clause = refl;
  missing_clause = refl;
  unfinished_clause = refl;
  falling_sorted = refl;
  sorted_again = refl;
  plain_sorted = refl;
  plain_again = refl;
  handed_in_sorted = refl;
  typed_listed = refl;
  typed_written = refl;
  typed_strict = refl;
  typed_plain = refl;
  typed_fault = refl;
  two_forms = refl;
  form_over_lines = refl;
  tab_typed = refl;
  comment_within = refl;
  comment_unended = refl;
  blank_alone = refl;
  typed_sorted = refl;
  nine_written_holds = refl;
  visits_listed = refl;
  no_condition = refl;
  made_declared = refl;
  made_undeclared = refl;
  a_index = refl;
  a_6_lamp = refl;
  a_6_dark = refl;
  a_0_sensor = refl;
  plain_index = refl;
  plain_0_c = refl;
}
