-- Rows that are placed one after another.
use Rattle.std.proofs.Common.{◌≡◌, ℕ, ◌+◌, ◌<◌, ◌≤◌, List, [], ◌∷◌, ◌++◌, length, get_or, take, drop, refl, sym, ap, subst, ◌∙◌, arith, inl, inr, length-append, take-append-drop}
use Rattle.std.proofs.lemmas.List.{take_more, drop_more, get_or_append_left}
use Rattle.std.specs.List.{AllZip}
use Rattle.edge_traits.specs.declared.names.PledgeId.{PledgeId}
use Rattle.registrar_book.specs.declared.answers.OpenFault.{OpenFault}
use Rattle.registrar_book.specs.declared.answers.OpenFault.TheVariants.{Disk, NotAJournal, SameKey, ContextsFull, JournalFull, NoMemory}
use Rattle.registrar_book.specs.Opening.{Row}
use Rattle.registrar_book.specs.Known.{PlacesRow, PlacesRows, IsRowAt, IsSameKey, RowsCause}

zip_push : {A B : Type 0} (R : A → B → Type 0) (xs : List A) (ys : List B) (x : A) (y : B) → AllZip R xs ys → R x y → AllZip R (xs ++ x ∷ []) (ys ++ y ∷ [])
zip_push R [] [] x y all one = (one, tt)
zip_push R [] (b ∷ ys) x y all one = absurd all
zip_push R (a ∷ xs) [] x y all one = absurd all
zip_push R (a ∷ xs) (b ∷ ys) x y all one = (all.0, zip_push R xs ys x y all.1 one)

pub zip_map : {A B : Type 0} (R S : A → B → Type 0) (xs : List A) (ys : List B) → ((x : A) (y : B) → R x y → S x y) → AllZip R xs ys → AllZip S xs ys
zip_map R S [] [] f all = tt
zip_map R S [] (b ∷ ys) f all = absurd all
zip_map R S (a ∷ xs) [] f all = absurd all
zip_map R S (a ∷ xs) (b ∷ ys) f all = (f a b all.0, zip_map R S xs ys f all.1)

pub PlacesRows-push : (known rows between new : List Row) (row : Row) → PlacesRows known rows between → PlacesRow between row new → PlacesRows known (rows ++ row ∷ []) new
PlacesRows-push known [] between new row is one = (new, subst (λ (k : List Row). PlacesRow k row new) is one, refl)
PlacesRows-push known (r ∷ rows) between new row is one = (is.0, is.1, PlacesRows-push is.0 rows between new row is.2 one)

-- what stood at a place is there still
still_at : (old : List Row) (row : Row) (new : List Row) → PlacesRow old row new → (other : Row) (place : ℕ) → IsRowAt old other place → IsRowAt new other place
still_at old row new (inl is) other place at = subst (λ (k : List Row). IsRowAt k other place) (sym is.1) at
still_at old row new (inr is) other place at =
    subst (λ (k : List Row). IsRowAt k other place) (sym is.1) (omega (arith, at.0, length-append old (row ∷ [])), get_or_append_left old (row ∷ []) other place at.0 ∙ at.1)

grows_by_one : (old : List Row) (row : Row) (new : List Row) → PlacesRow old row new → length new ≤ length old + 1
grows_by_one old row new (inl is) = omega (arith, ap length is.1)
grows_by_one old row new (inr is) = omega (arith, ap length is.1, length-append old (row ∷ []))

-- the rows up to this one are placed
pub record ArePlaced (known rows now : List Row) (contexts : List ℕ) (i : ℕ) : Type 0 where
  pub placed : PlacesRows known (take i rows) now
  pub places : AllZip (IsRowAt now) (take i rows) contexts
  pub most : length now ≤ length known + i

pub places_more : (known rows now new : List Row) (contexts : List ℕ) (i place : ℕ) (row : Row) → i < length rows → get_or rows i row ≡ row → ArePlaced known rows now contexts i
    → PlacesRow now row new → IsRowAt new row place → ArePlaced known rows new (contexts ++ place ∷ []) (i + 1)
places_more known rows now new contexts i place row lt is are one at =
    let more : take (i + 1) rows ≡ take i rows ++ row ∷ [] = take_more rows i row lt ∙ ap (λ (r : Row). take i rows ++ r ∷ []) is in
    record {
      placed = subst (λ (l : List Row). PlacesRows known l new) (sym more) (PlacesRows-push known (take i rows) now new row are.placed one);
      places = subst (λ (l : List Row). AllZip (IsRowAt new) l (contexts ++ place ∷ [])) (sym more)
          (zip_push (IsRowAt new) (take i rows) contexts row place (zip_map (IsRowAt now) (IsRowAt new) (take i rows) contexts (still_at now row new one) are.places) at);
      most = omega (arith, are.most, grows_by_one now row new one);
    }

pub rows_cause : (known rows now : List Row) (contexts : List ℕ) (i : ℕ) (row : Row) (fault : OpenFault) → i < length rows → get_or rows i row ≡ row → ArePlaced known rows now contexts i
    → IsSameKey now row fault → RowsCause known rows fault
rows_cause known rows now contexts i row (SameKey p q) lt is are same = record {
  before = take i rows;
  check = row.1;
  after = drop (i + 1) rows;
  between = now;
  parts = sym (take-append-drop i rows) ∙ ap (λ (l : List Row). take i rows ++ l) (drop_more rows i row lt ∙ ap (λ (r : Row). r ∷ drop (i + 1) rows) (is ∙ sym (ap (λ (q : PledgeId). (q, row.1)) same.0)));
  placed = are.placed;
  found = same.2;
  other = same.1;
}
rows_cause known rows now contexts i row NoMemory lt is are same = tt
rows_cause known rows now contexts i row (Disk faults) lt is are same = absurd same
rows_cause known rows now contexts i row (NotAJournal spot) lt is are same = absurd same
rows_cause known rows now contexts i row (ContextsFull n) lt is are same = absurd same
rows_cause known rows now contexts i row (JournalFull n) lt is are same = absurd same
