-- The search for the least free address.
use Rattle.std.proofs.Common.{◌≡◌, inl, inr, ℕ, ◌+◌, ◌<◌, ◌≤◌, false, List, [], ◌∷◌, Option, Some, None, Contains, refl, sym, ◌∙◌, subst, arith, true≢false}
use Rattle.std.proofs.lemmas.Bool.{cases_lt}
use Rattle.std.proofs.lemmas.Option.{none-some, same_Some}
use Rattle.edge_traits.specs.declared.names.PledgeId.{PledgeId}
use Rattle.address_leases.specs.declared.grant.Grant.{Grant}
use Rattle.address_leases.specs.declared.top.Top.{Top}
use Rattle.address_leases.specs.declared.pledges.Last.{Last}
use Rattle.address_leases.specs.Grants.{Holds, IsHeldByAnother}
use Rattle.address_leases.specs.Indices.{top_at, IsTopOf, IsTopOver, IsFirstOver, IsLastOf, IsSkipped, IsLeastUpTo, IsFreeAnswer}
use Rattle.address_leases.proofs.IdLemmas.{id_cases}
use Rattle.address_leases.proofs.ListLemmas.{Contains-here, Contains-later}
use Rattle.address_leases.proofs.IndexLemmas.{held_by_top}

-- where the top isn't over the pledge or another one holds the address
skipped_by_top : (grants : List Grant) (passed now b : ℕ) (p : PledgeId) (o : Option Top) → passed ≤ now
    → IsTopOf grants passed b o → (IsTopOver now o → ⊥) → IsSkipped grants now p [] b
skipped_by_top grants passed now b p None time is over = absurd (over tt)
skipped_by_top grants passed now b p (Some top) time is over =
    let kept : now < top.until + 3600 =
    elim (cases_lt now (top.until + 3600)) [ inl less ↦ less | inr at_least ↦ absurd (over at_least) ] in
    elim (id_cases top.id p) [
      | inl same ↦ inr (
        (record { until = top.until; address = b; id = top.id }, is.is_one (omega arith), refl, same, kept),
        λ none. omega (arith, none.1),
      )
      | inr other ↦ inl (held_by_top grants passed b now top p is time kept other)
    ]

-- where the top is over nobody does
free_by_top : (grants : List Grant) (passed now a : ℕ) (p : PledgeId) (o : Option Top) → passed ≤ now
    → IsTopOf grants passed a o → IsTopOver now o → IsHeldByAnother grants now a p → ⊥
free_by_top grants passed now a p None time is over (q, other, (g, has, at, of, kept)) = is.above g has at (omega arith)
free_by_top grants passed now a p (Some top) time is over (q, other, (g, has, at, of, kept)) =
    omega (arith, (is.above g has at (omega arith)).0)

-- the least address whose top is over is the least free one, but for the pledge's own
pub least_over : (grants : List Grant) (passed first count now : ℕ) (p : PledgeId) (tops : List (Option Top)) (found : Option ℕ)
    → ((a : ℕ) → IsTopOf grants passed a (top_at tops a)) → passed ≤ now
    → IsFirstOver tops first count now found → IsLeastUpTo grants first count now p [] found
least_over grants passed first count now p tops None are time over = λ b pool.
    skipped_by_top grants passed now b p (top_at tops b) time (are b) (over b pool)
least_over grants passed first count now p tops (Some a) are time over = (
  over.0,
  free_by_top grants passed now a p (top_at tops a) time (are a) over.1,
  λ b pool less. skipped_by_top grants passed now b p (top_at tops b) time (are b) (over.2 b pool less),
)

-- the search is done once all addresses of the pledge were looked at
done_skipped : (grants : List Grant) (t : ℕ) (p : PledgeId) (seen : List ℕ) (b : ℕ)
    → ((c : ℕ) → Holds grants t c p → Contains seen c) → IsSkipped grants t p seen b → IsHeldByAnother grants t b p
done_skipped grants t p seen b own skipped = elim skipped [
  | inl another ↦ another
  | inr held ↦ absurd (held.1 (own b held.0))
]

pub least_free : (grants : List Grant) (first count t : ℕ) (p : PledgeId) (seen : List ℕ) (found : Option ℕ)
    → ((c : ℕ) → Holds grants t c p → Contains seen c)
    → IsLeastUpTo grants first count t p seen found → IsFreeAnswer grants first count t p found
least_free grants first count t p seen None own least = λ b pool. done_skipped grants t p seen b own (least b pool)
least_free grants first count t p seen (Some a) own least = record {
  in_pool = least.0;
  free = least.1;
  least = λ b pool less. done_skipped grants t p seen b own (least.2 b pool less);
}

-- which addresses a pledge may hold
pub holds_none : (grants : List Grant) (passed t : ℕ) (p : PledgeId) → passed ≤ t → IsLastOf grants passed p None
    → (c : ℕ) → Holds grants t c p → Contains [] c
holds_none grants passed t p time none c (g, has, at, of, kept) = absurd (none g has of (omega arith))

pub holds_last : (grants : List Grant) (passed t : ℕ) (p : PledgeId) (last : Last) → passed ≤ t → IsLastOf grants passed p (Some last)
    → last.more ≡ false → last.previous ≡ None → (c : ℕ) → Holds grants t c p → Contains (last.address ∷ []) c
holds_last grants passed t p last time is more previous c (g, has, at, of, kept) = elim (is.0 g has of (omega arith)) [
  | inl same ↦ subst (Contains (last.address ∷ [])) (sym same ∙ at) (Contains-here last.address [])
  | inr (inl before) ↦ absurd (none-some g.address (sym previous ∙ before))
  | inr (inr others) ↦ absurd (true≢false (sym others ∙ more))
]

pub holds_last_two : (grants : List Grant) (passed t : ℕ) (p : PledgeId) (last : Last) (before : ℕ) → passed ≤ t
    → IsLastOf grants passed p (Some last) → last.more ≡ false → last.previous ≡ Some before
    → (c : ℕ) → Holds grants t c p → Contains (before ∷ last.address ∷ []) c
holds_last_two grants passed t p last before time is more previous c (g, has, at, of, kept) = elim (is.0 g has of (omega arith)) [
  | inl same ↦
      subst (Contains (before ∷ last.address ∷ [])) (sym same ∙ at)
      (Contains-later before (last.address ∷ []) last.address (Contains-here last.address []))
  | inr (inl one_before) ↦
      subst (Contains (before ∷ last.address ∷ [])) (same_Some before g.address (sym previous ∙ one_before) ∙ at) (Contains-here before (last.address ∷ []))
  | inr (inr others) ↦ absurd (true≢false (sym others ∙ more))
]
