-- The marked cases of document 01's "Sheets of known states", from the bytes of the files; the order of states is that of document 02, W-206, units are those of W-207, the counts of translations those of W-214, atoms that no rule has are left out by W-203, clause files are read by W-202, canonical texts are those of W-205, conditions are read by W-208, and rules are indexed by W-209.
use Rattle.std.specs.Prelude.{ℕ, ◌≡◌, Result, Ok, Err, List, [], ◌∷◌, ◌++◌, length}
use Rattle.kinds.specs.Limits.{budget_limit}
use Rattle.kinds.specs.Words.{bytes}
use Rattle.kinds.specs.declared.refusals.Refusal.{Refusal}
use Rattle.kinds.specs.declared.refusals.Refusal.TheVariants.{BrokenForm, Name, DeclaredTwice, Undeclared, Limit, BrokenClauses, LiteralBeyond, BrokenCondition}
use Rattle.rules.specs.Lists.{sum, flat, from}
use Rattle.rules.specs.Rules.{occurrences}
use Rattle.stores.specs.RuleStore.{encode}
use Rattle.name_store.specs.NameStore.{encode_names}
use Rattle.text.specs.Text.{text_of}
use Rattle.lines.specs.Said.{Said, accepted, refused, typed, said}
use Rattle.lines.specs.Strict.{strict_text}
use Rattle.clauses.specs.ClausesSaid.{clauses_said}
use Rattle.walks.specs.declared.answers.Verdict.{Verdict}
use Rattle.walks.specs.declared.answers.Verdict.TheVariants.{Yes, Broken, Beaten, Spent, Refused}
use Rattle.walks.specs.declared.answers.NextState.{NextState}
use Rattle.walks.specs.declared.answers.NextState.TheVariants.{State, Nothing, Refused as NotSearched}
use Rattle.places.specs.Places.{place}
use Rattle.rule_index.specs.Index.{index_of}
use Rattle.rule_index.specs.Flip.{broken_rules, after_flip}
use Rattle.walks.specs.Order.{preferred_sets}
use Rattle.walks.specs.Walk.{preferred_verdict, stable_verdict, next_verdict}
use Rattle.pairing.specs.Translated.{translated}
use Rattle.answers.specs.Writing.{stores_text}
use Rattle.answers.specs.WritingCanonical.{canonical_text, stores_canonical}
use Rattle.answers.specs.Programs.{states_printed}

-- the rules of file A
unfoldable pub rules_a : List ℕ
rules_a = bytes "(rule (head sensor lamp) (body) (not))\n(rule (head dark) (body lamp) (not))\n"

-- file A
unfoldable pub file_a : List ℕ
file_a = bytes "(min sensor)\n(min lamp)\n(vary dark)\n(fix)\n" ++ rules_a

-- A as a person types it
unfoldable pub typed_a : List ℕ
typed_a = bytes "; two faults\n\n(min sensor)  ; the graver one\n  ( min lamp )\n(vary dark)\n(fix)\n\n(rule(head sensor lamp)(body)(not))\n(rule (head dark) (body   lamp) (not)) ; lamps\n"

-- the marked condition, and what is written for it
unfoldable pub nine_rules : List ℕ
nine_rules = bytes "(vary a b c)\n(fix d)\n(when not (a and b) or c (then d))\n"

unfoldable pub nine_written : List ℕ
nine_written =
    bytes "(vary a b c T.1 T.2 T.3)\n(fix d)\n"
    ++ (bytes "(rule (head T.1 T.2) (body) (not))\n(rule (head) (body T.1 T.2) (not))\n"
    ++ (bytes "(rule (head T.2) (body a b) (not))\n(rule (head a) (body T.2) (not))\n(rule (head b) (body T.2) (not))\n"
    ++ (bytes "(rule (head T.1 c) (body T.3) (not))\n(rule (head T.3) (body T.1) (not))\n(rule (head T.3) (body c) (not))\n"
    ++ bytes "(rule (head d) (body T.3) (not))\n")))

-- a visit without light is bad
unfoldable pub visits : List ℕ
visits = bytes "(min bad)\n(vary visit)\n(fix lit)\n(when visit and not lit (then bad))\n(rule (head visit) (body) (not))\n"

-- A with one class `sensor lamp`
unfoldable pub one_class : List ℕ
one_class = bytes "(min sensor lamp)\n(vary dark)\n(fix)\n" ++ rules_a

-- A with `lamp` as class 1, `sensor` as class 2
unfoldable pub lamp_first : List ℕ
lamp_first = bytes "(min lamp)\n(min sensor)\n(vary dark)\n(fix)\n" ++ rules_a

-- A with `dark` fixed
unfoldable pub dark_fixed : List ℕ
dark_fixed = bytes "(min sensor)\n(min lamp)\n(vary)\n(fix dark)\n" ++ rules_a

-- `(vary)`, `(fix)` alone
unfoldable pub nothing : List ℕ
nothing = bytes "(vary)\n(fix)\n"

-- those and a rule with three empty lists
unfoldable pub empty_rule : List ℕ
empty_rule = bytes "(vary)\n(fix)\n(rule (head) (body) (not))\n"

-- one rule `sensor or dark`, `sensor` minimised, `dark` varying
unfoldable pub one_rule : List ℕ
one_rule = bytes "(min sensor)\n(vary dark)\n(fix)\n(rule (head sensor dark) (body) (not))\n"

-- A with a first class, a varying and a fixed atom that no rule has
unfoldable pub unused : List ℕ
unused = bytes "(min spare)\n(min sensor)\n(min lamp)\n(vary idle dark)\n(fix door)\n" ++ rules_a

-- A with an unused name of 25 bytes, and with one declared twice
unfoldable pub unused_long : List ℕ
unused_long = bytes "(min sensor)\n(min lamp)\n(vary dark idle_idle_idle_idle_idle_)\n(fix)\n" ++ rules_a

unfoldable pub unused_twice : List ℕ
unused_twice = bytes "(min sensor)\n(min lamp idle)\n(vary dark)\n(fix idle)\n" ++ rules_a

-- a plain program with an atom that no rule has
unfoldable pub plain_unused : List ℕ
plain_unused = bytes "(atoms a b)\n(rule (head b) (body) (not))\n"

-- the plain program `a or b if not c`, `b if a`
unfoldable pub plain : List ℕ
plain = bytes "(atoms a b c)\n(rule (head a b) (body) (not c))\n(rule (head b) (body a) (not))\n"

-- document 001's Example 1: three inverters in a row
unfoldable pub inverters : List ℕ
inverters =
    bytes "(min ab1 ab2 ab3)\n(vary a b c d)\n(fix)\n(rule (head a b ab1) (body) (not))\n(rule (head ab1) (body a b) (not))\n(rule (head b c ab2) (body) (not))\n(rule (head ab2) (body b c) (not))\n"
    ++ bytes "(rule (head c d ab3) (body) (not))\n(rule (head ab3) (body c d) (not))\n(rule (head) (body a) (not))\n(rule (head) (body d) (not))\n"

-- a clause file: v1 or not v2; v2 or v4, with a literal repeated; not v1 or not v4 or not v2, over two lines; no clause has atom 3
unfoldable pub clause_file : List ℕ
clause_file = bytes "c three clauses\np cnf 4 3\n1 -2 0\n  2 4 2 0 -1\nc 0\n\n-4 -2 0\n"

-- 256 of 257 clauses, with 8,192 occurrences, on line 2
unfoldable pub many_literals : List ℕ
many_literals =
    bytes "p cnf 32 257\n"
    ++ (flat (λ i. bytes "1 2 3 4 5 6 7 8 9 10 11 12 13 14 15 16 17 18 19 20 21 22 23 24 25 26 27 28 29 30 31 32 0 ") (from 0 256)
    ++ bytes "\n")

-- A with its rules in falling order, the first one twice, with its atoms in either sequence
unfoldable pub falling : List ℕ
falling = bytes "(min sensor)\n(min lamp)\n(vary dark)\n(fix)\n(rule (head dark) (body lamp) (not))\n(rule (head lamp sensor) (body) (not))\n(rule (head sensor lamp) (body) (not))\n"

-- a plain program in falling order, and its canonical text: head before body before not, and a list that ends first before a longer one
unfoldable pub plain_falling : List ℕ
plain_falling = bytes "(atoms a b c)\n(rule (head b) (body) (not))\n(rule (head b a) (body) (not))\n(rule (head a) (body c b) (not))\n(rule (head a) (body b) (not c))\n(rule (head a) (body b) (not))\n(rule (head) (body c) (not))\n"

unfoldable pub plain_rising : List ℕ
plain_rising = bytes "(atoms a b c)\n(rule (head) (body c) (not))\n(rule (head a) (body b) (not))\n(rule (head a) (body b) (not c))\n(rule (head a) (body b c) (not))\n(rule (head a b) (body) (not))\n(rule (head b) (body) (not))\n"

-- the verdict on a set by a text's lines
abbrev pub verdict : Said → ℕ → ℕ → Verdict
verdict (accepted p names) set budget = preferred_verdict p.words p.rules set budget
verdict (refused f line) set budget = Refused f

-- the stable verdict
abbrev pub stable : Said → ℕ → Verdict
stable (accepted p names) set = stable_verdict p.atoms p.rules set budget_limit
stable (refused f line) set = Refused f

-- a set's place
abbrev pub placed : Said → ℕ → Result ℕ Refusal
placed (accepted p names) set = Ok (place p.atoms set)
placed (refused f line) set = Err f

-- the next state from a place on
abbrev pub next : Said → ℕ → NextState
next (accepted p names) start = next_verdict p.words p.rules start budget_limit
next (refused f line) start = NotSearched f

-- the preferred states of a text's lines
abbrev pub states : Said → List ℕ
states (accepted p names) = preferred_sets p.words p.rules
states (refused f line) = []

-- the two stores of what a text's lines leave
abbrev pub stores : Said → List ℕ × List ℕ
stores (accepted p names) = (encode p, encode_names names)
stores (refused f line) = ([], [])

-- the writer's text of what a text's lines leave
abbrev pub written : Said → List ℕ
written (accepted p names) = text_of p names
written (refused f line) = []

-- the writer's text of the two stores with all that a text's lines declare, handed in
abbrev pub handed_in : Said → List ℕ
handed_in (accepted p names) = stores_text (encode p) (encode_names names)
handed_in (refused f line) = []

-- the canonical text of what a text's lines leave
abbrev pub canonical : Said → List ℕ
canonical (accepted p names) = canonical_text p names
canonical (refused f line) = []

-- the canonical text of the two stores with all that a text's lines declare, handed in
abbrev pub handed_in_canonical : Said → List ℕ
handed_in_canonical (accepted p names) = stores_canonical (encode p) (encode_names names)
handed_in_canonical (refused f line) = []

-- atoms, rules and occurrences of the translation
abbrev pub counts : Said → List ℕ
counts (accepted p names) = (translated p).atoms ∷ length (translated p).rules ∷ sum occurrences (translated p).rules ∷ []
counts (refused f line) = []

-- the index of the rules that a text's lines leave
abbrev pub indexed : Said → List ℕ
indexed (accepted p names) = index_of p
indexed (refused f line) = []

-- what the flip of an atom makes of the rules that a set breaks
abbrev pub flip : Said → ℕ → ℕ → List ℕ
flip (accepted p names) set atom = after_flip p.rules (broken_rules p.rules set) set atom
flip (refused f line) set atom = []

pub record Sheet : Type 0 where
  -- A: set 6 preferred, 13 units; set 1 beaten by 6, 6 units; set 0 breaks rule 0; set 2 breaks rule 1; set 1 with budget 5 spent, with 6 not
  pub a_6 : verdict (said file_a) 6 budget_limit ≡ Yes 13
  pub a_1 : verdict (said file_a) 1 budget_limit ≡ Beaten 6 6
  pub a_0 : verdict (said file_a) 0 budget_limit ≡ Broken 0
  pub a_2 : verdict (said file_a) 2 budget_limit ≡ Broken 1
  pub a_1_spent : verdict (said file_a) 1 5 ≡ Spent 5
  pub a_1_enough : verdict (said file_a) 1 6 ≡ Beaten 6 6
  pub a_listed : states_printed file_a ≡ bytes "(state lamp dark)\n(total 1)\n"
  -- A: from place 0 set 6, 19 units; from place 4 none, 26 units; from place 8 none, without a unit; set 6 stands at place 3
  pub a_from_0 : next (said file_a) 0 ≡ State 6 19
  pub a_from_4 : next (said file_a) 4 ≡ Nothing 26
  pub a_from_8 : next (said file_a) 8 ≡ Nothing 0
  pub a_6_place : placed (said file_a) 6 ≡ Ok 3
  -- the plain program: set 2 stable, 4 units; set 3 beaten by 2, 5 units; set 4 beaten by 0, 4 units
  pub plain_2 : stable (said plain) 2 ≡ Yes 4
  pub plain_3 : stable (said plain) 3 ≡ Beaten 2 5
  pub plain_4 : stable (said plain) 4 ≡ Beaten 0 4
  -- one inverter of three at fault: 4·3^3 - 1 units
  pub inverters_20 : verdict (said inverters) 20 budget_limit ≡ Yes 107
  pub one_class_lem : states (said one_class) ≡ 6 ∷ 1 ∷ 5 ∷ []
  pub lamp_first_holds : states (said lamp_first) ≡ 2 ∷ 6 ∷ []
  pub dark_fixed_holds : states (said dark_fixed) ≡ 6 ∷ 1 ∷ []
  pub dark_fixed_1 : verdict (said dark_fixed) 1 budget_limit ≡ Yes 10
  pub one_empty_state : states (said nothing) ≡ 0 ∷ []
  pub nothing_counts : counts (said nothing) ≡ 2 ∷ 4 ∷ 7 ∷ []
  pub no_state : states (said empty_rule) ≡ []
  pub one_rule_counts : counts (said one_rule) ≡ 10 ∷ 18 ∷ 44 ∷ []
  -- an unused varying atom lists no state again; an emptied class stays, with its line; the faults of unused names stay; a plain program keeps its atoms
  pub unused_listed : states_printed unused ≡ bytes "(state lamp dark)\n(total 1)\n"
  pub unused_written : written (said unused) ≡ bytes "(min)\n(min sensor)\n(min lamp)\n(vary dark)\n(fix)\n" ++ rules_a
  pub unused_counts : counts (said unused) ≡ 16 ∷ 31 ∷ 80 ∷ []
  pub unused_long_holds : said unused_long ≡ refused Name 3
  pub unused_twice_holds : said unused_twice ≡ refused DeclaredTwice 4
  pub plain_unused_holds : written (said plain_unused) ≡ plain_unused
  -- stores with unused atoms that are handed in are written and translated with them
  pub handed_in_written : handed_in (typed unused) ≡ unused
  pub handed_in_counts : counts (typed unused) ≡ 25 ∷ 43 ∷ 111 ∷ []
  -- the clause file: its text and stores; sets 4 and 3 preferred, set 5 satisfies the clauses and is beaten by 4, set 1 breaks the second clause
  pub clauses_written : written (clauses_said clause_file)
      ≡ bytes "(min v1 v2 v4)\n(vary)\n(fix)\n(rule (head v1) (body v2) (not))\n(rule (head v2 v4) (body) (not))\n(rule (head) (body v1 v4 v2) (not))\n"
  pub clauses_rules_holds : (stores (clauses_said clause_file)).0 ≡ 1 ∷ 3 ∷ 1 ∷ 3 ∷ 1 ∷ 1 ∷ 1 ∷ 1 ∷ 1 ∷ 0 ∷ 0 ∷ 1 ∷ 2 ∷ 0 ∷ 0 ∷ 1 ∷ 2 ∷ 0 ∷ 3 ∷ 0 ∷ 0 ∷ 2 ∷ 1 ∷ []
  pub clauses_names_holds : (stores (clauses_said clause_file)).1 ≡ 2 ∷ bytes "v1" ++ (2 ∷ bytes "v2" ++ (2 ∷ bytes "v4"))
  pub clauses_states : states (clauses_said clause_file) ≡ 4 ∷ 3 ∷ []
  pub clauses_5 : verdict (clauses_said clause_file) 5 budget_limit ≡ Beaten 4 5
  pub clauses_1 : verdict (clauses_said clause_file) 1 budget_limit ≡ Broken 1
  -- no clause: one empty state; an empty clause: none
  pub no_clause_written : written (clauses_said (bytes "p cnf 0 0\n")) ≡ bytes "(min)\n(vary)\n(fix)\n"
  pub no_clause : states (clauses_said (bytes "p cnf 0 0\n")) ≡ 0 ∷ []
  pub empty_clause : states (clauses_said (bytes "p cnf 1 2\n1 0\n0\n")) ≡ []
  -- 15, 16 and 7, each with its line; on one line 15 before 16 before 7; the earliest line counts
  pub broken_clause : clauses_said (bytes "p cnf 2 2\n1 0\n2 -0\n") ≡ refused BrokenClauses 3
  pub literal_beyond : clauses_said (bytes "p cnf 2 1\n1\n-3 0\n") ≡ refused LiteralBeyond 3
  pub atoms_257 : clauses_said (bytes "c\np cnf 257 1\n1 0\n") ≡ refused Limit 2
  pub literal_8193 : clauses_said (many_literals ++ bytes "-1 0\n") ≡ refused Limit 3
  pub beyond_before_limit : clauses_said (many_literals ++ bytes "-1 33 0\n") ≡ refused LiteralBeyond 3
  pub broken_before_beyond : clauses_said (bytes "p cnf 1 1\n2 0 x\n") ≡ refused BrokenClauses 2
  pub beyond_line_first : clauses_said (bytes "p cnf 1 1\n2\nx 0\n") ≡ refused LiteralBeyond 2
  -- a surplus clause on the line where it starts, a missing or unfinished one past the last line
  pub surplus_clause : clauses_said (bytes "p cnf 1 1\n1 0\n-1\n0\n") ≡ refused BrokenClauses 3
  pub missing_clause : clauses_said (bytes "p cnf 1 2\n1 0\n") ≡ refused BrokenClauses 3
  pub unfinished_clause : clauses_said (bytes "p cnf 1 1\n1\n") ≡ refused BrokenClauses 3
  -- A's rules in another sequence, with one of them twice: the canonical text is A, and that of A is A again; of stores handed in, the unused atoms are written
  pub falling_sorted : canonical (said falling) ≡ file_a
  pub sorted_again : canonical (said file_a) ≡ file_a
  pub plain_sorted : canonical (said plain_falling) ≡ plain_rising
  pub plain_again : canonical (said plain_rising) ≡ plain_rising
  pub handed_in_sorted : handed_in_canonical (typed unused) ≡ unused
  -- A as a person types it: comments, blank lines and spaces count for nothing but their lines, and the writer gives A
  pub typed_listed : states_printed typed_a ≡ bytes "(state lamp dark)\n(total 1)\n"
  pub typed_written : written (said typed_a) ≡ file_a
  pub typed_strict : strict_text typed_a ≡ file_a
  pub typed_plain : written (said (bytes "; first\n\n ( atoms a b)\n(rule(head b a)(body)(not)) ; or\n")) ≡ bytes "(atoms a b)\n(rule (head b a) (body) (not))\n"
  pub typed_fault : said (bytes "; a\n\n(vary a)\n (fix)\n\n(rule (head b) (body) (not)) ; b\n") ≡ refused Undeclared 6
  -- two forms on a line, a form over two lines, a tab, a comment within a form, no byte 10 behind the last comment, no line at all
  pub two_forms : said (bytes "(vary) (fix)\n") ≡ refused BrokenForm 1
  pub form_over_lines : said (bytes "(vary\na)\n") ≡ refused BrokenForm 1
  pub tab_typed : said (bytes "(vary\ta)\n(fix)\n") ≡ refused BrokenForm 1
  pub comment_within : said (bytes "(vary a ; b)\n(fix)\n") ≡ refused BrokenForm 1
  pub comment_unended : said (bytes "(vary)\n(fix)\n; end") ≡ refused BrokenForm 3
  pub blank_alone : said (bytes "\n  ; nothing\n") ≡ refused BrokenForm 3
  pub typed_sorted : canonical (said typed_a) ≡ file_a
  -- T.1 for `not`, T.2 for `and`, T.3 for `or`, and nine rules in that sequence; states show what conditions made
  pub nine_written_holds : written (said nine_rules) ≡ nine_written
  pub visits_listed : states_printed visits ≡ bytes "(state visit lit)\n(state bad visit T.1 T.2)\n(total 2)\n"
  -- no condition; a made atom that is declared, and one that is typed though no line declares it
  pub no_condition : said (bytes "(vary a b)\n(fix)\n(when a b (then a))\n") ≡ refused BrokenCondition 3
  pub made_declared : said (bytes "(vary a T.1)\n(fix)\n(when not a (then a))\n") ≡ refused DeclaredTwice 3
  pub made_undeclared : said (bytes "(vary a)\n(fix)\n(when not a (then a))\n(when T.1 (then a))\n") ≡ refused Undeclared 4
  -- A's rules by their atoms; set 6 breaks none, without `lamp` rule 0, without `dark` rule 1; set 0 breaks rule 0, with `sensor` none
  pub a_index : indexed (said file_a) ≡ 1 ∷ 0 ∷ 2 ∷ 0 ∷ 1 ∷ 1 ∷ 1 ∷ []
  pub a_6_lamp : flip (said file_a) 6 1 ≡ 0 ∷ []
  pub a_6_dark : flip (said file_a) 6 2 ≡ 1 ∷ []
  pub a_0_sensor : flip (said file_a) 0 0 ≡ []
  -- a `not` atom's rules are its own too, and its flip mends rule 0
  pub plain_index : indexed (said plain) ≡ 2 ∷ 0 ∷ 1 ∷ 2 ∷ 0 ∷ 1 ∷ 1 ∷ 0 ∷ []
  pub plain_0_c : flip (said plain) 0 2 ≡ []
