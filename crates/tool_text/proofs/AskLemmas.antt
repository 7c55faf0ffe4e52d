-- Lines with the word `ask`.
use Rattle.std.proofs.Common.{◌≡◌, ◌≢◌, ℕ, ◌^◌, ◌<◌, ◌≤◌, List, [], ◌∷◌, ◌++◌, length, get_or, codes, decimal, refl, sym, ap, ◌∙◌, subst, arith, append_assoc, length-append}
use Rattle.std.proofs.lemmas.Fmt.{decimal_injective, decimal_nonempty}
use Rattle.std.proofs.lemmas.List.{append_cancel_left}
use Rattle.std.proofs.lemmas.List.Elements.{All-from_recursion}
use Rattle.edge_traits.specs.declared.names.PledgeId.{PledgeId}
use Rattle.hex.proofs.HexLemmas.{decode_of-same}
use Rattle.tool_text.specs.declared.line.Line.{Line}
use Rattle.tool_text.specs.declared.line.Line.TheVariants.{Skipped, Ask}
use Rattle.tool_text.specs.Line.{IsLine, IsAsk, IsSkipped, SpellsId}
use Rattle.tool_text.specs.Lines.{Lacks}
use Rattle.tool_text.proofs.Fields.{Lacks-decimal, Lacks-id}
use Rattle.tool_text.proofs.Splits.{one_cut, lacks_none}

-- the fields after the word, cut at their spaces
pub record AreAskFields (fields : List ℕ) (time : ℕ) (id : PledgeId) (number : ℕ) : Type 0 where
  pub time_fits : time < 2 ^ 40
  pub number_fits : number < 2 ^ 40
  pub digits : List ℕ
  pub id_is : SpellsId digits id
  pub parts : fields ≡ decimal time ++ 32 ∷ (digits ++ 32 ∷ decimal number)

-- texts after one another, with the brackets to the right
regrouped : (word time digits number : List ℕ)
    → word ++ time ++ codes " " ++ digits ++ codes " " ++ number ≡ word ++ (time ++ 32 ∷ (digits ++ 32 ∷ number))
regrouped word time digits number =
    append_assoc (word ++ time ++ codes " " ++ digits) (codes " ") number
    ∙ append_assoc (word ++ time ++ codes " ") digits (32 ∷ number)
    ∙ append_assoc (word ++ time) (codes " ") (digits ++ 32 ∷ number)
    ∙ append_assoc word time (32 ∷ (digits ++ 32 ∷ number))

-- a line's fields
AreAskFields-from : (fields : List ℕ) (time : ℕ) (id : PledgeId) (number : ℕ)
    → IsAsk (codes "ask " ++ fields) time id number → AreAskFields fields time id number
AreAskFields-from fields time id number ask = record {
  time_fits = ask.time_fits;
  number_fits = ask.number_fits;
  digits = ask.digits;
  id_is = ask.id_is;
  parts = append_cancel_left (codes "ask ") fields _ (ask.text ∙ regrouped (codes "ask ") (decimal time) ask.digits (decimal number));
}

-- the line of these fields
IsAsk-from : (fields : List ℕ) (time : ℕ) (id : PledgeId) (number : ℕ)
    → AreAskFields fields time id number → IsAsk (codes "ask " ++ fields) time id number
IsAsk-from fields time id number are = record {
  time_fits = are.time_fits;
  number_fits = are.number_fits;
  digits = are.digits;
  id_is = are.id_is;
  text = ap (λ x. codes "ask " ++ x) are.parts ∙ sym (regrouped (codes "ask ") (decimal time) are.digits (decimal number));
}

-- an `ask` line has at least 24 bytes
pub length-ask : (bytes : List ℕ) (time : ℕ) (id : PledgeId) (number : ℕ) → IsLine bytes (Ask time id number)
    → 24 ≤ length bytes
length-ask bytes time id number ask =
    let t = decimal_nonempty time (omega (arith, ask.time_fits)) in
    let n = decimal_nonempty number (omega (arith, ask.number_fits)) in
    let text = ap length (ask.text ∙ regrouped (codes "ask ") (decimal time) ask.digits (decimal number)) in
    omega (arith, text, ask.id_is.sixteen, length-append (decimal time) (32 ∷ (ask.digits ++ 32 ∷ decimal number)), length-append ask.digits (32 ∷ decimal number))

-- an `ask` line begins with the word
ask_starts : (bytes : List ℕ) (time : ℕ) (id : PledgeId) (number : ℕ) → IsAsk bytes time id number
    → (fields : List ℕ) × (bytes ≡ codes "ask " ++ fields) × AreAskFields fields time id number
ask_starts bytes time id number ask =
    let fields = decimal time ++ 32 ∷ (ask.digits ++ 32 ∷ decimal number) in (
      fields,
      ask.text ∙ regrouped (codes "ask ") (decimal time) ask.digits (decimal number),
      record { time_fits = ask.time_fits; number_fits = ask.number_fits; digits = ask.digits; id_is = ask.id_is; parts = refl },
    )

-- the word has no space
Lacks-ask : Lacks (codes "ask") 32
Lacks-ask = All-from_recursion (λ b. b ≢ 32) (codes "ask") (omega arith, (omega arith, (omega arith, tt)))

-- an `ask` line is no comment, and not empty
ask_not_skipped : (bytes : List ℕ) (time : ℕ) (id : PledgeId) (number : ℕ) → IsAsk bytes time id number → IsSkipped bytes → ⊥
ask_not_skipped bytes time id number ask skipped =
    let s = ask_starts bytes time id number ask in
    let at : IsSkipped (codes "ask " ++ s.0) = subst IsSkipped s.1 skipped in
    omega arith

-- digits spell one identifier
same_id : (digits : List ℕ) (a b : PledgeId) → SpellsId digits a → SpellsId digits b → a ≡ b
same_id digits a b sa sb =
    let P : List ℕ → PledgeId = λ (x : List ℕ). record { 0 = x } in
    ap P (decode_of-same digits a.0 b.0 sa.decoded sb.decoded)

-- the fields say one thing
same_fields : (fields : List ℕ) (time : ℕ) (id : PledgeId) (number : ℕ) (time' : ℕ) (id' : PledgeId) (number' : ℕ)
    → AreAskFields fields time id number → AreAskFields fields time' id' number'
    → (time ≡ time') × (id ≡ id') × (number ≡ number')
same_fields fields time id number time' id' number' a b =
    let first = one_cut (decimal time) (decimal time') _ _ 32 (Lacks-decimal time (omega (arith, a.time_fits)))
    (Lacks-decimal time' (omega (arith, b.time_fits))) (sym a.parts ∙ b.parts) in
    let second = one_cut a.digits b.digits _ _ 32 (Lacks-id a.digits id a.id_is) (Lacks-id b.digits id' b.id_is) first.1 in
    let spelled : SpellsId b.digits id = subst (λ (x : List ℕ). SpellsId x id) second.0 a.id_is in (
      decimal_injective time time' (omega (arith, a.time_fits)) (omega (arith, b.time_fits)) first.0,
      same_id b.digits id id' spelled b.id_is,
      decimal_injective number number' (omega (arith, a.number_fits)) (omega (arith, b.number_fits)) second.1,
    )

-- bytes are one line at most
pub same_line : (bytes : List ℕ) (a b : Line) → IsLine bytes a → IsLine bytes b → a ≡ b
same_line bytes Skipped Skipped la lb = refl
same_line bytes Skipped (Ask time id number) la lb = absurd (ask_not_skipped bytes time id number lb la)
same_line bytes (Ask time id number) Skipped la lb = absurd (ask_not_skipped bytes time id number la lb)
same_line bytes (Ask time id number) (Ask time' id' number') la lb =
    let a = ask_starts bytes time id number la in
    let b = ask_starts bytes time' id' number' lb in
    let fields : a.0 ≡ b.0 = append_cancel_left (codes "ask ") a.0 b.0 (sym a.1 ∙ b.1) in
    let moved : AreAskFields b.0 time id number = subst (λ (x : List ℕ). AreAskFields x time id number) fields a.2 in
    let same = same_fields b.0 time id number time' id' number' moved b.2 in
    ap (λ t. Ask t id number) same.0 ∙ ap (λ (i : PledgeId). Ask time' i number) same.1 ∙ ap (λ n. Ask time' id' n) same.2

-- a line that begins with the word has fields
pub ask_fields : (fields : List ℕ) (line : Line) → IsLine (codes "ask " ++ fields) line
    → (time : ℕ) × (id : PledgeId) × (number : ℕ) × AreAskFields fields time id number
ask_fields fields Skipped is = absurd (omega arith)
ask_fields fields (Ask time id number) is = (time, id, number, AreAskFields-from fields time id number is)

-- bytes with another first byte than `#` are no comment
pub not_skipped : (bytes : List ℕ) → 0 < length bytes → get_or bytes 0 0 ≢ 35 → IsSkipped bytes → ⊥
not_skipped [] some other skipped = omega arith
not_skipped (b ∷ bytes) some other skipped = other skipped

-- a line without a space is skipped
pub no_space : (bytes : List ℕ) (line : Line) → Lacks bytes 32 → (IsSkipped bytes → ⊥) → IsLine bytes line → ⊥
no_space bytes Skipped lacks other is = other is
no_space bytes (Ask time id number) lacks other is =
    let s = ask_starts bytes time id number is in
    lacks_none bytes (codes "ask") s.0 32 lacks s.1

-- the word of a line that isn't skipped
pub ask_word : (word fields : List ℕ) (line : Line) → Lacks word 32 → (IsSkipped (word ++ 32 ∷ fields) → ⊥)
    → IsLine (word ++ 32 ∷ fields) line → word ≡ codes "ask"
ask_word word fields Skipped lacks other is = absurd (other is)
ask_word word fields (Ask time id number) lacks other is =
    let s = ask_starts _ time id number is in
    (one_cut word (codes "ask") fields s.0 32 lacks Lacks-ask s.1).0

-- the fields, where the code cut them at their first space
first_cut : (fields first rest : List ℕ) (time : ℕ) (id : PledgeId) (number : ℕ)
    → fields ≡ first ++ 32 ∷ rest → Lacks first 32 → (are : AreAskFields fields time id number)
    → (first ≡ decimal time) × (rest ≡ are.digits ++ 32 ∷ decimal number)
first_cut fields first rest time id number e lacks are =
    one_cut first (decimal time) rest _ 32 lacks (Lacks-decimal time (omega (arith, are.time_fits))) (sym e ∙ are.parts)

-- fields without a space are no line
pub no_first_cut : (fields : List ℕ) (line : Line) → Lacks fields 32 → IsLine (codes "ask " ++ fields) line → ⊥
no_first_cut fields line lacks is =
    let said = ask_fields fields line is in
    lacks_none fields (decimal said.0) _ 32 lacks said.3.parts

-- fields with one space are no line
pub no_second_cut : (fields first rest : List ℕ) (line : Line) → fields ≡ first ++ 32 ∷ rest → Lacks first 32 → Lacks rest 32
    → IsLine (codes "ask " ++ fields) line → ⊥
no_second_cut fields first rest line e lacks lacks' is =
    let said = ask_fields fields line is in
    let cut = first_cut fields first rest said.0 said.1 said.2 e lacks said.3 in
    lacks_none rest said.3.digits _ 32 lacks' cut.1

-- the fields, where the code cut them at both spaces
pub both_cuts : (fields first rest second third : List ℕ) (time : ℕ) (id : PledgeId) (number : ℕ)
    → fields ≡ first ++ 32 ∷ rest → Lacks first 32 → rest ≡ second ++ 32 ∷ third → Lacks second 32
    → AreAskFields fields time id number
    → (first ≡ decimal time) × SpellsId second id × (third ≡ decimal number)
both_cuts fields first rest second third time id number e lacks e' lacks' are =
    let one = first_cut fields first rest time id number e lacks are in
    let two = one_cut second are.digits third _ 32 lacks' (Lacks-id are.digits id are.id_is) (sym e' ∙ one.1) in
    (one.0, subst (λ (x : List ℕ). SpellsId x id) (sym two.0) are.id_is, two.1)

-- fields that were cut and read
pub line_from_cuts : (fields first rest second third : List ℕ) (time : ℕ) (id : PledgeId) (number : ℕ)
    → fields ≡ first ++ 32 ∷ rest → rest ≡ second ++ 32 ∷ third
    → time < 2 ^ 40 → first ≡ decimal time → SpellsId second id → number < 2 ^ 40 → third ≡ decimal number
    → IsLine (codes "ask " ++ fields) (Ask time id number)
line_from_cuts fields first rest second third time id number e e' t_fits t i n_fits n =
    IsAsk-from fields time id number (record {
      time_fits = t_fits;
      number_fits = n_fits;
      digits = second;
      id_is = i;
      parts = e ∙ ap (λ x. first ++ 32 ∷ x) e' ∙ ap (λ x. x ++ 32 ∷ (second ++ 32 ∷ third)) t ∙ ap (λ x. decimal time ++ 32 ∷ (second ++ 32 ∷ x)) n;
    })
