-- Lemmas about the lines of a script.
use Rattle.std.proofs.Common.{◌≡◌, ◌+◌, ◌*◌, ◌<◌, ◌≤◌, ◌⊎◌, ℕ, List, [], ◌∷◌, ◌++◌, length, suc, refl, sym, ◌∙◌, ap, subst, arith, inl, inr, append_assoc, append-nil, length-append}
use Rattle.std.proofs.lemmas.Bool.{cases_lt}
use Rattle.std.specs.List.{AllZip}
use Rattle.tool_text.specs.declared.line.Line.{Line}
use Rattle.tool_text.specs.declared.line.Line.TheVariants.{Skipped, Ask}
use Rattle.tool_text.specs.Line.{IsLine}
use Rattle.tool_text.specs.Lines.{lines_of, IsFirstLine}
use Rattle.tool_text.proofs.AskLemmas.{length-ask}
use Rattle.registrar_tool.specs.Run.{script_limit}
use Rattle.registrar_tool.specs.Script.{IsScript, IsWrongAt, ask_count}

-- some lines of the bytes were read, and the rest is left
pub record AreReadBefore (bytes rest : List ℕ) (before : List (List ℕ)) (lines : List Line) : Type 0 where
  pub all : lines_of bytes ≡ before ++ lines_of rest
  pub each : AllZip IsLine before lines
  pub few : 23 * ask_count lines + length rest ≤ length bytes
  pub short : length lines + length rest ≤ length bytes
  pub more : script_limit < length bytes → 0 < length rest

-- nothing was read yet
pub AreReadBefore-none : (bytes : List ℕ) → AreReadBefore bytes bytes [] []
AreReadBefore-none bytes = record { all = refl; each = tt; few = omega arith; short = omega arith; more = λ long. omega arith }

-- one more pair for which R holds
AllZip-push : {A B : Type 0} (R : A → B → Type 0) (xs : List A) (ys : List B) (x : A) (y : B) → AllZip R xs ys → R x y
    → AllZip R (xs ++ x ∷ []) (ys ++ y ∷ [])
AllZip-push R [] [] x y zips holds = (holds, tt)
AllZip-push R [] (b ∷ ys) x y zips holds = absurd zips
AllZip-push R (a ∷ xs) [] x y zips holds = absurd zips
AllZip-push R (a ∷ xs) (b ∷ ys) x y zips holds = (zips.0, AllZip-push R xs ys x y zips.1 holds)

-- the two lists are as long
length-AllZip : {A B : Type 0} (R : A → B → Type 0) (xs : List A) (ys : List B) → AllZip R xs ys → length xs ≡ length ys
length-AllZip R [] [] zips = refl
length-AllZip R [] (b ∷ ys) zips = absurd zips
length-AllZip R (a ∷ xs) [] zips = absurd zips
length-AllZip R (a ∷ xs) (b ∷ ys) zips = ap suc (length-AllZip R xs ys zips.1)

-- how many requests there are with one more line
ask_count-push : (lines : List Line) (line : Line) → ask_count (lines ++ line ∷ []) ≡ ask_count lines + ask_count (line ∷ [])
ask_count-push [] line = omega arith
ask_count-push (Skipped ∷ lines) line = ask_count-push lines line
ask_count-push (Ask time id number ∷ lines) line = omega (arith, ask_count-push lines line)

-- the bytes that a line and the rest after it take
length-first : (bytes line rest : List ℕ) → IsFirstLine bytes line rest → length line + length rest ≤ length bytes
length-first bytes line rest first =
    elim first.parts [
      | inl cut ↦ omega (arith, ap length cut, length-append line (10 ∷ rest))
      | inr whole ↦ omega (arith, ap length whole.0, ap length whole.1)
    ]

-- a request takes more than 23 bytes for each that it counts
asks_take : (line : List ℕ) (read : Line) → IsLine line read → 23 * ask_count (read ∷ []) ≤ length line
asks_take line Skipped is = omega arith
asks_take line (Ask time id number) is = omega (arith, length-ask line time id number is)

-- one more line was read
pub AreReadBefore-more : (bytes rest line after : List ℕ) (before : List (List ℕ)) (lines : List Line) (read : Line)
    → AreReadBefore bytes rest before lines → lines_of rest ≡ line ∷ lines_of after → IsFirstLine rest line after
    → length after < length rest → IsLine line read → (script_limit < length bytes → 0 < length after)
    → AreReadBefore bytes after (before ++ line ∷ []) (lines ++ read ∷ [])
AreReadBefore-more bytes rest line after before lines read so_far first parts shorter is more = record {
  all =
      so_far.all ∙ ap (λ (ys : List (List ℕ)). before ++ ys) first ∙ sym (append_assoc before (line ∷ []) (lines_of after));
  each = AllZip-push IsLine before lines line read so_far.each is;
  few = omega (arith, so_far.few, ask_count-push lines read, length-first rest line after parts, asks_take line read is);
  short = omega (arith, so_far.short, length-append lines (read ∷ []));
  more = more;
}

-- all lines were read
pub IsScript-read : (bytes rest : List ℕ) (before : List (List ℕ)) (lines : List Line)
    → AreReadBefore bytes rest before lines → rest ≡ [] → IsScript script_limit bytes lines
IsScript-read bytes rest before lines so_far end = record {
  fits =
      elim (cases_lt script_limit (length bytes)) [
        | inl long ↦ absurd (omega (arith, so_far.more long, ap length end))
        | inr fits ↦ fits
      ];
  each =
      let all : lines_of bytes ≡ before = so_far.all ∙ ap (λ (ys : List ℕ). before ++ lines_of ys) end ∙ append-nil before in
      subst (λ (ls : List (List ℕ)). AllZip IsLine ls lines) (sym all) so_far.each;
}

-- the next line is wrong
pub IsWrongAt-read : (bytes rest line after : List ℕ) (before : List (List ℕ)) (lines : List Line)
    → AreReadBefore bytes rest before lines → lines_of rest ≡ line ∷ lines_of after
    → ((read : Line) → IsLine line read → ⊥) ⊎ ((after ≡ []) × (script_limit < length bytes))
    → IsWrongAt script_limit bytes lines (length lines + 1)
IsWrongAt-read bytes rest line after before lines so_far first wrong = record {
  before = before;
  wrong = line;
  after = lines_of after;
  lines_are = so_far.all ∙ ap (λ (ys : List (List ℕ)). before ++ ys) first;
  each = so_far.each;
  number = ap (λ (n : ℕ). n + 1) (sym (length-AllZip IsLine before lines so_far.each));
  outside = elim wrong [ inl unread ↦ inl unread | inr past ↦ inr (ap lines_of past.0, past.1) ];
}
