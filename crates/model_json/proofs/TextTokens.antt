-- The text of a value that holds texts alone reads as it, also with a line feed behind it.
use Rattle.std.specs.Prelude.{◌≡◌, ℕ, suc, ◌≤◌, max, Bool, true, false, List, [], ◌∷◌, ◌++◌, Option, Some, option_map, option_and_then, ⊤}
use Rattle.std.proofs.Common.{refl, sym, ap, ap₂, subst, ◌∙◌, arith, append_assoc, append-nil}
use Rattle.std.specs.Ordering.{match_ordering, ordering_reverse}
use Rattle.std.specs.Str.{IsUtf8}
use Rattle.std.specs.declared.cmp.Ordering.TheVariants.{Less, Greater}
use Rattle.std.proofs.lemmas.Cmp.{nat_list_cmp_total}
use Rattle.std.proofs.lemmas.Str.{IsUtf8-append}
use Rattle.general_words.specs.Texts.{text_cmp}
use Rattle.model_names.specs.Name.{Part}
use Rattle.model_names.proofs.PartLemmas.{IsUtf8-byte, IsUtf8-cons}
use Rattle.json.specs.Text.{content, plain}
use Rattle.json.specs.Lex.{Lexeme, lex, between, in_string, punctuate, fresh, tokens, token, string_token}
use Rattle.json.specs.Print.{escape, quoted}
use Rattle.json.specs.Json as json
use Rattle.json.specs.Tree as json_tree
use Rattle.json.proofs.Printed.Strings.{content-escape, lex-escape}
use Rattle.json.proofs.Printed.Tokens.{tokens-print}
use Rattle.json.proofs.Printed.Trees.{value-json_tokens, ArePrintable-json_tokens}
use Rattle.json.proofs.Printed.Utf8.{IsUtf8-quoted}
use Rattle.serde_json.specs.Data.{Data, null, boolean, number, string, array, object, Items, no_items, item, Members, no_members, member, put, depth, items_depth, members_depth}
use Rattle.serde_json.specs.Read.{of_json, of_items, of_members, max_depth, read}
use Rattle.serde_json.specs.Written.{outline, items_outline, members_outline, comma_if, compact_text, items_text, members_text}
use Rattle.serde_json.proofs.Texts.{print-outline}

-- ---- values that hold texts alone, each UTF-8, and members in the order of their names

abbrev pub AllBelow : Part → Members → Type 0
AllBelow name no_members = ⊤
AllBelow name (member next d ms) = (text_cmp name next ≡ Less) × AllBelow name ms

abbrev mutual
  pub IsWritten : Data → Type 0
  IsWritten null = ⊥
  IsWritten (boolean b) = ⊥
  IsWritten (number n) = ⊥
  IsWritten (string text) = IsUtf8 text
  IsWritten (array ds) = AreWritten ds
  IsWritten (object ms) = HaveWritten ms

  pub AreWritten : Items → Type 0
  AreWritten no_items = ⊤
  AreWritten (item d ds) = IsWritten d × AreWritten ds

  pub HaveWritten : Members → Type 0
  HaveWritten no_members = ⊤
  HaveWritten (member name d ms) = IsUtf8 name × AllBelow name ms × IsWritten d × HaveWritten ms

-- ---- lexemes of two texts, one behind the other

-- what follows a text doesn't change its lexemes
abbrev Splits : List ℕ → Type 0
Splits text = (rest : List ℕ) → lex between (text ++ rest) ≡ lex between text ++ lex between rest

Splits-append : (text more : List ℕ) → Splits text → Splits more → Splits (text ++ more)
Splits-append text more p q rest =
    ap (lex between) (append_assoc text more rest) ∙ p (more ++ rest) ∙ ap (λ l. lex between text ++ l) (q rest)
    ∙ sym (append_assoc (lex between text) (lex between more) (lex between rest))
    ∙ ap (λ l. l ++ lex between rest) (sym (p more))

Splits-quoted : (text : List ℕ) → Splits (quoted text)
unfolding lex
Splits-quoted text rest =
    let shown = λ (r : List ℕ). ap₂ (λ (t : Option (List ℕ)) (ls : List Lexeme). token (string_token t) ∷ ls) (content-escape text r) (lex-escape text r) in
    ap₂ (λ (t : Option (List ℕ)) (ls : List Lexeme). token (string_token t) ∷ ls) (ap (content plain) (append_assoc (escape text) (34 ∷ []) rest)) (ap (lex in_string) (append_assoc (escape text) (34 ∷ []) rest))
    ∙ shown rest ∙ ap (λ ls. ls ++ lex between rest) (sym (shown []))

Splits-comma : (later : Bool) → Splits (comma_if later)
unfolding lex
Splits-comma true rest = refl
Splits-comma false rest = refl

Splits-open_array : Splits (91 ∷ [])
unfolding lex
Splits-open_array rest = refl

Splits-open_object : Splits (123 ∷ [])
unfolding lex
Splits-open_object rest = refl

Splits-colon : Splits (58 ∷ [])
unfolding lex
Splits-colon rest = refl

mutual
  unfolding lex

  Splits-value : (d : Data) → IsWritten d → Splits (compact_text d)
  Splits-value null w = absurd w
  Splits-value (boolean b) w = absurd w
  Splits-value (number n) w = absurd w
  Splits-value (string text) w = Splits-quoted text
  Splits-value (array ds) w = Splits-append (91 ∷ []) (items_text false ds) Splits-open_array (Splits-items false ds w)
  Splits-value (object ms) w =
      Splits-append (123 ∷ []) (members_text false ms) Splits-open_object (Splits-members false ms w)

  Splits-items : (later : Bool) (ds : Items) → AreWritten ds → Splits (items_text later ds)
  Splits-items later no_items w = λ rest. refl
  Splits-items later (item d ds) w =
      Splits-append (comma_if later) (compact_text d ++ items_text true ds) (Splits-comma later) (Splits-append (compact_text d) (items_text true ds) (Splits-value d w.0) (Splits-items true ds w.1))

  Splits-members : (later : Bool) (ms : Members) → HaveWritten ms → Splits (members_text later ms)
  Splits-members later no_members w = λ rest. refl
  Splits-members later (member name d ms) w =
      Splits-append (comma_if later) (quoted name ++ 58 ∷ (compact_text d ++ members_text true ms)) (Splits-comma later)
      (Splits-append (quoted name) (58 ∷ (compact_text d ++ members_text true ms)) (Splits-quoted name)
      (Splits-append (58 ∷ []) (compact_text d ++ members_text true ms) Splits-colon
      (Splits-append (compact_text d) (members_text true ms) (Splits-value d w.2) (Splits-members true ms w.3))))

-- so a line feed changes no token
tokens-feed : (d : Data) → IsWritten d → tokens (compact_text d ++ 10 ∷ []) ≡ tokens (compact_text d)
unfolding lex
tokens-feed d w = ap (punctuate fresh) (Splits-value d w (10 ∷ []) ∙ append-nil (lex between (compact_text d)))

-- ---- what these tokens are

mutual
  numbers-value : (d : Data) → IsWritten d → json_tree.HasNumbers (outline d)
  numbers-value null w = tt
  numbers-value (boolean b) w = tt
  numbers-value (number n) w = absurd w
  numbers-value (string text) w = tt
  numbers-value (array ds) w = numbers-items ds w
  numbers-value (object ms) w = numbers-members ms w

  numbers-items : (ds : Items) → AreWritten ds → json_tree.ItemsHaveNumbers (items_outline ds)
  numbers-items no_items w = tt
  numbers-items (item d ds) w = (numbers-value d w.0, numbers-items ds w.1)

  numbers-members : (ms : Members) → HaveWritten ms → json_tree.MembersHaveNumbers (members_outline ms)
  numbers-members no_members w = tt
  numbers-members (member name d ms) w = (numbers-value d w.2, numbers-members ms w.3)

mutual
  depth-value : (d : Data) → json_tree.depth (outline d) ≡ depth d
  depth-value null = refl
  depth-value (boolean b) = refl
  depth-value (number n) = refl
  depth-value (string text) = refl
  depth-value (array ds) = ap suc (depth-items ds)
  depth-value (object ms) = ap suc (depth-members ms)

  depth-items : (ds : Items) → json_tree.items_depth (items_outline ds) ≡ items_depth ds
  depth-items no_items = refl
  depth-items (item d ds) = ap₂ max (depth-value d) (depth-items ds)

  depth-members : (ms : Members) → json_tree.members_depth (members_outline ms) ≡ members_depth ms
  depth-members no_members = refl
  depth-members (member name d ms) = ap₂ max (depth-value d) (depth-members ms)

-- members behind others
abbrev onto : Members → Members → Members
onto no_members ms = ms
onto (member name d found) ms = member name d (onto found ms)

abbrev BelowName : Members → Part → Type 0
BelowName no_members name = ⊤
BelowName (member next d found) name = (text_cmp next name ≡ Less) × BelowName found name

abbrev BelowEach : Members → Members → Type 0
BelowEach found no_members = ⊤
BelowEach found (member name d ms) = BelowName found name × BelowEach found ms

put-last : (name : Part) (d : Data) (found : Members) → BelowName found name
    → put name d found ≡ onto found (member name d no_members)
put-last name d no_members h = refl
put-last name d (member next e found) h =
    let greater : text_cmp name next ≡ Greater = nat_list_cmp_total.antisymm name next ∙ ap ordering_reverse h.0 in
    ap (λ o. match_ordering o (member name d (member next e found)) (member next d found) (member next e (put name d found))) greater
    ∙ ap (member next e) (put-last name d found h.1)

onto-one : (name : Part) (d : Data) (found ms : Members)
    → onto (onto found (member name d no_members)) ms ≡ onto found (member name d ms)
onto-one name d no_members ms = refl
onto-one name d (member next e found) ms = ap (member next e) (onto-one name d found ms)

BelowName-one : (name later : Part) (d : Data) (found : Members) → BelowName found later → text_cmp name later ≡ Less
    → BelowName (onto found (member name d no_members)) later
BelowName-one name later d no_members h less = (less, tt)
BelowName-one name later d (member next e found) h less = (h.0, BelowName-one name later d found h.1 less)

BelowEach-one : (name : Part) (d : Data) (found ms : Members) → BelowEach found ms → AllBelow name ms
    → BelowEach (onto found (member name d no_members)) ms
BelowEach-one name d found no_members h below = tt
BelowEach-one name d found (member next e ms) h below =
    (BelowName-one name next d found h.0 below.0, BelowEach-one name d found ms h.1 below.1)

BelowEach-none : (ms : Members) → BelowEach no_members ms
BelowEach-none no_members = tt
BelowEach-none (member name d ms) = (tt, BelowEach-none ms)

mutual
  json-value : (d : Data) → IsWritten d → of_json (outline d) ≡ Some d
  json-value null w = absurd w
  json-value (boolean b) w = absurd w
  json-value (number n) w = absurd w
  json-value (string text) w = refl
  json-value (array ds) w = ap (option_map array) (json-items ds w)
  json-value (object ms) w = ap (option_map object) (json-members ms no_members w (BelowEach-none ms))

  json-items : (ds : Items) → AreWritten ds → of_items (items_outline ds) ≡ Some ds
  json-items no_items w = refl
  json-items (item d ds) w =
      ap₂ (λ (o : Option Data) (more : Option Items). option_and_then (λ x. option_map (item x) more) o) (json-value d w.0) (json-items ds w.1)

  json-members : (ms found : Members) → HaveWritten ms → BelowEach found ms
      → of_members (members_outline ms) found ≡ Some (onto found ms)
  json-members no_members found w below = ap Some (sym (onto-nothing found))
    where
      onto-nothing : (found : Members) → onto found no_members ≡ found
      onto-nothing no_members = refl
      onto-nothing (member name d found) = ap (member name d) (onto-nothing found)
  json-members (member name d ms) found w below =
      ap (λ (o : Option Data). option_and_then (λ x. of_members (members_outline ms) (put name x found)) o) (json-value d w.2)
      ∙ ap (of_members (members_outline ms)) (put-last name d found below.0)
      ∙ json-members ms (onto found (member name d no_members)) w.3 (BelowEach-one name d found ms below.1 w.1)
      ∙ ap Some (onto-one name d found ms)

-- ---- the text reads

pub text-is-read : (d : Data) → IsWritten d → depth d ≤ max_depth → read (compact_text d ++ 10 ∷ []) ≡ Some d
text-is-read d w shallow =
    let ts = json_tree.json_tokens (outline d) in
    let printed : tokens (compact_text d ++ 10 ∷ []) ≡ ts ++ [] = tokens-feed d w ∙ ap tokens (sym (print-outline d)) ∙ tokens-print ts (ArePrintable-json_tokens (outline d) (numbers-value d w)) ∙ sym (append-nil ts) in
    ap (λ us. option_and_then of_json (option_and_then (λ p. json.if_last p.0 p.1) (json.value max_depth us))) printed
    ∙ ap (λ r. option_and_then of_json (option_and_then (λ p. json.if_last p.0 p.1) r)) (value-json_tokens (outline d) max_depth [] (subst (λ n. n ≤ max_depth) (sym (depth-value d)) shallow))
    ∙ json-value d w

-- ---- and is UTF-8

ascii : (b : ℕ) (bytes : List ℕ) → suc b ≤ 128 → IsUtf8 bytes → IsUtf8 (b ∷ bytes)
ascii b bytes small utf8 = IsUtf8-cons b bytes (omega arith) utf8

utf8-comma : (later : Bool) (bytes : List ℕ) → IsUtf8 bytes → IsUtf8 (comma_if later ++ bytes)
utf8-comma true bytes utf8 = ascii 44 bytes (omega arith) utf8
utf8-comma false bytes utf8 = utf8

mutual
  utf8-value : (d : Data) → IsWritten d → IsUtf8 (compact_text d)
  utf8-value null w = absurd w
  utf8-value (boolean b) w = absurd w
  utf8-value (number n) w = absurd w
  utf8-value (string text) w = IsUtf8-quoted text w
  utf8-value (array ds) w = ascii 91 (items_text false ds) (omega arith) (utf8-items false ds w)
  utf8-value (object ms) w = ascii 123 (members_text false ms) (omega arith) (utf8-members false ms w)

  utf8-items : (later : Bool) (ds : Items) → AreWritten ds → IsUtf8 (items_text later ds)
  utf8-items later no_items w = IsUtf8-byte 93 (omega arith)
  utf8-items later (item d ds) w =
      utf8-comma later _ (IsUtf8-append (compact_text d) (items_text true ds) (utf8-value d w.0) (utf8-items true ds w.1))

  utf8-members : (later : Bool) (ms : Members) → HaveWritten ms → IsUtf8 (members_text later ms)
  utf8-members later no_members w = IsUtf8-byte 125 (omega arith)
  utf8-members later (member name d ms) w =
      utf8-comma later _ (IsUtf8-append (quoted name) _ (IsUtf8-quoted name w.0) (ascii 58 _ (omega arith) (IsUtf8-append (compact_text d) (members_text true ms) (utf8-value d w.2) (utf8-members true ms w.3))))

pub text-is-utf8 : (d : Data) → IsWritten d → IsUtf8 (compact_text d ++ 10 ∷ [])
text-is-utf8 d w = IsUtf8-append (compact_text d) (10 ∷ []) (utf8-value d w) (IsUtf8-byte 10 (omega arith))
