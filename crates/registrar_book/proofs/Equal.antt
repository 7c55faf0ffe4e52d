-- Settings that are compared field by field.
use Rattle.std.proofs.Common.{◌≡◌, Bool, true, false, ◌&&◌, List, [], ◌∷◌, Option, Some, None, refl, ap}
use Rattle.std.specs.Bool.{Decides}
use Rattle.std.specs.Option.{option_eq}
use Rattle.std.proofs.lemmas.Slice.Eq.{bytes_eq-Decides}
use Rattle.std.proofs.lemmas.Bool.Decides.{Decides-eqb}
use Rattle.std.specs.Str.{bytes_eq}
use Rattle.edge_traits.specs.declared.names.PledgeId.{PledgeId}
use Rattle.journal_text.specs.declared.settings.Settings.{Settings}
use lib.Pointwise.{pointwise}
use lib.Dec.{eqb}

and_decides : {P Q R : Type 0} (b c : Bool) → Decides b P → Decides c Q → (P → Q → R) → (R → P) → (R → Q) → Decides (b && c) R
and_decides true true p q both left right = (λ t. both (p.0 refl) (q.0 refl), λ r. refl)
and_decides true false p q both left right = (λ t. absurd (cc t), λ r. q.1 (right r))
and_decides false c p q both left right = (λ t. absurd (cc t), λ r. p.1 (left r))

and_pair : {P Q : Type 0} (b c : Bool) → Decides b P → Decides c Q → Decides (b && c) (P × Q)
and_pair b c p q = and_decides b c p q (λ x y. (x, y)) (λ r. r.0) (λ r. r.1)

pointwise_decides : {X : Type 0} (E : X → X → Bool) → ((x y : X) → Decides (E x y) (x ≡ y)) → (xs ys : List X) → Decides (pointwise E xs ys) (xs ≡ ys)
pointwise_decides E one [] [] = (λ t. refl, λ e. refl)
pointwise_decides E one [] (y ∷ ys) = (λ t. absurd (cc t), λ e. absurd (cc e))
pointwise_decides E one (x ∷ xs) [] = (λ t. absurd (cc t), λ e. absurd (cc e))
pointwise_decides E one (x ∷ xs) (y ∷ ys) = and_decides (E x y) (pointwise E xs ys) (one x y) (pointwise_decides E one xs ys) (λ p q. cc) (λ e. cc) (λ e. cc)

option_decides : {X : Type 0} (E : X → X → Bool) → ((x y : X) → Decides (E x y) (x ≡ y)) → (x y : Option X) → Decides (option_eq E x y) (x ≡ y)
option_decides E one None None = (λ t. refl, λ e. refl)
option_decides E one None (Some y) = (λ t. absurd (cc t), λ e. absurd (cc e))
option_decides E one (Some x) None = (λ t. absurd (cc t), λ e. absurd (cc e))
option_decides E one (Some x) (Some y) = (λ t. ap Some ((one x y).0 t), λ e. (one x y).1 cc)

id_decides : (x y : PledgeId) → Decides (bytes_eq x.0 y.0) (x ≡ y)
id_decides x y =
    let bytes = bytes_eq-Decides x.0 y.0 in
    (λ t. let numbers = bytes.0 t in λ i. record { 0 = numbers i }, λ e. bytes.1 (ap (λ (p : PledgeId). p.0) e))

same_settings : (a b : Settings) → a.first ≡ b.first → a.count ≡ b.count → a.hours ≡ b.hours → a.rate ≡ b.rate → a.jrc ≡ b.jrc → a.refused.items ≡ b.refused.items → a ≡ b
same_settings a b first count hours rate jrc refused = λ i. record {
  first = first i;
  count = count i;
  hours = hours i;
  rate = rate i;
  jrc = jrc i;
  refused = record { items = refused i };
}

pub settings_decide : (a b : Settings)
    → Decides (eqb a.first b.first && (eqb a.count b.count && (eqb a.hours b.hours && (option_eq eqb a.rate b.rate && (option_eq (pointwise eqb) a.jrc b.jrc && pointwise (λ (x y : PledgeId). bytes_eq x.0 y.0) a.refused.items b.refused.items))))) (a ≡ b)
settings_decide a b =
    let jrc = option_decides (pointwise eqb) (pointwise_decides eqb Decides-eqb) a.jrc b.jrc in
    let refused = pointwise_decides (λ (x y : PledgeId). bytes_eq x.0 y.0) id_decides a.refused.items b.refused.items in
    let last = and_pair _ _ jrc refused in
    let rate = and_pair _ _ (option_decides eqb Decides-eqb a.rate b.rate) last in
    let hours = and_pair _ _ (Decides-eqb a.hours b.hours) rate in
    let count = and_pair _ _ (Decides-eqb a.count b.count) hours in
    and_decides _ _ (Decides-eqb a.first b.first) count
    (λ first more. same_settings a b first more.0 more.1.0 more.1.1.0 more.1.1.1.0 more.1.1.1.1)
    (λ e. ap (λ (s : Settings). s.first) e)
    (λ e. (ap (λ (s : Settings). s.count) e, (ap (λ (s : Settings). s.hours) e, (ap (λ (s : Settings). s.rate) e, (ap (λ (s : Settings). s.jrc) e, ap (λ (s : Settings). s.refused.items) e)))))
