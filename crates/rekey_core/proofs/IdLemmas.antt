-- Identifiers: the same or not.
use Rattle.std.proofs.Common.{◌≡◌, ◌≢◌, ◌⊎◌, inl, inr, true, false, refl, sym, ap, ◌∙◌}
use Rattle.std.specs.Str.{bytes_eq}
use Rattle.std.proofs.lemmas.Bool.{false≢true}
use Rattle.std.proofs.lemmas.Slice.Eq.{bytes_eq-Decides}
use Rattle.edge_traits.specs.declared.names.PledgeId.{PledgeId}

pub id_from_numbers : (p q : PledgeId) → p.0 ≡ q.0 → p ≡ q
id_from_numbers p q same = λ i. record { 0 = same i }

pub id_from_test : (p q : PledgeId) → bytes_eq p.0 q.0 ≡ true → p ≡ q
id_from_test p q is = id_from_numbers p q ((bytes_eq-Decides p.0 q.0).0 is)

pub test_from_id : (p q : PledgeId) → p ≡ q → bytes_eq p.0 q.0 ≡ true
test_from_id p q same = (bytes_eq-Decides p.0 q.0).1 (ap (λ (x : PledgeId). x.0) same)

pub other_from_test : (p q : PledgeId) → bytes_eq p.0 q.0 ≡ false → p ≢ q
other_from_test p q is = λ same. false≢true (sym is ∙ test_from_id p q same)

pub id_cases : (p q : PledgeId) → (p ≡ q) ⊎ (p ≢ q)
id_cases p q = (elim (bytes_eq p.0 q.0) as (λ b. bytes_eq p.0 q.0 ≡ b → (p ≡ q) ⊎ (p ≢ q)) [
  | true ↦ λ is. inl (id_from_test p q is)
  | false ↦ λ is. inr (other_from_test p q is)
]) refl
