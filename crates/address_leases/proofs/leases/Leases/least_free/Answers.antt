use Rattle.std.proofs.Common.{◌≡◌, ◌≤◌, sym, ◌∙◌, ap, subst, arith, Some, [], ◌∷◌}
use Rattle.address_leases.specs.Lent.{Lent}
use Rattle.address_leases.specs.Indices.{IsLastOf, IsLeastUpTo, IsFreeAnswer}
use Rattle.address_leases.proofs.SearchLemmas.{least_over, least_free, holds_none, holds_last, holds_last_two}
use Rattle.address_leases.proofs.leases.Leases.least_free.Goals as goal

pub returns-in-None : goal.returns-in-None
returns-in-None c =
    let q = c.self.inside.queue.grants in
    let time : c.self.inside.passed ≤ c.args.now = omega (arith, ap (λ (v : Lent). v.passed) c.self.view_is, c.requires.time) in
    let last = subst (IsLastOf q c.self.inside.passed c.args.id) (sym c.get.ensures ∙ c.in-None.is) (c.self.invariant.lasts_of c.args.id) in
    subst (λ (v : Lent). IsFreeAnswer v.grants c.args.first c.args.count c.args.now c.args.id c.first_over.result) c.self.view_is
    (least_free q c.args.first c.args.count c.args.now c.args.id [] c.first_over.result
    (holds_none q c.self.inside.passed c.args.now c.args.id time last)
    (least_over q c.self.inside.passed c.args.first c.args.count c.args.now c.args.id c.self.inside.tops c.first_over.result
    c.self.invariant.tops_of time c.first_over.ensures))

pub returns-in-None-previous : goal.returns-in-None-previous
returns-in-None-previous c =
    let q = c.self.inside.queue.grants in
    let time : c.self.inside.passed ≤ c.args.now = omega (arith, ap (λ (v : Lent). v.passed) c.self.view_is, c.requires.time) in
    let last = subst (IsLastOf q c.self.inside.passed c.args.id) (sym c.get.ensures ∙ c.in-Some.is) (c.self.invariant.lasts_of c.args.id) in
    let over = least_over q c.self.inside.passed c.args.first c.args.count c.args.now c.args.id c.self.inside.tops c.first_over-over.result
    c.self.invariant.tops_of time c.first_over-over.ensures in
    let grants : q ≡ c.args.self.now.grants = ap (λ (v : Lent). v.grants) c.self.view_is in
    let known = subst (λ gs. IsLastOf gs c.self.inside.passed c.args.id (Some c.in-Some.last)) grants last in
    least_free c.args.self.now.grants c.args.first c.args.count c.args.now c.args.id (c.in-Some.last.address ∷ []) c.lesser-with_last.result
    (holds_last c.args.self.now.grants c.self.inside.passed c.args.now c.args.id c.in-Some.last time known c.if-last.false c.in-None-previous.is)
    (c.lesser-with_last.ensures [] (subst (λ gs. IsLeastUpTo gs c.args.first c.args.count c.args.now c.args.id [] c.first_over-over.result) grants over))

pub returns-in-Some-previous : goal.returns-in-Some-previous
returns-in-Some-previous c =
    let q = c.self.inside.queue.grants in
    let time : c.self.inside.passed ≤ c.args.now = omega (arith, ap (λ (v : Lent). v.passed) c.self.view_is, c.requires.time) in
    let last = subst (IsLastOf q c.self.inside.passed c.args.id) (sym c.get.ensures ∙ c.in-Some.is) (c.self.invariant.lasts_of c.args.id) in
    let over = least_over q c.self.inside.passed c.args.first c.args.count c.args.now c.args.id c.self.inside.tops c.first_over-over.result
    c.self.invariant.tops_of time c.first_over-over.ensures in
    let grants : q ≡ c.args.self.now.grants = ap (λ (v : Lent). v.grants) c.self.view_is in
    let known = subst (λ gs. IsLastOf gs c.self.inside.passed c.args.id (Some c.in-Some.last)) grants last in
    least_free c.args.self.now.grants c.args.first c.args.count c.args.now c.args.id (c.in-Some-previous.previous ∷ c.in-Some.last.address ∷ []) c.lesser.result
    (holds_last_two c.args.self.now.grants c.self.inside.passed c.args.now c.args.id c.in-Some.last c.in-Some-previous.previous time known c.if-last.false c.in-Some-previous.is)
    (c.lesser.ensures (c.in-Some.last.address ∷ [])
    (c.lesser-with_last.ensures [] (subst (λ gs. IsLeastUpTo gs c.args.first c.args.count c.args.now c.args.id [] c.first_over-over.result) grants over)))
