use Rattle.std.proofs.Common.{◌≡◌, ◌<◌, ℕ, List, length, get_or, Option, Some, None, refl, subst, ◌∙◌}
use Rattle.std.specs.Prelude.{Contains, IfSome, IfNone}
use Rattle.registrar_book.specs.Opening.{Row}
use Rattle.registrar_book.specs.Known.{Knows}
use Rattle.registrar_book.proofs.IndexLemmas.{index_found, index_absent}
use Rattle.registrar_book.proofs.known.KnownRows.find.Goals as goal

pub returns-clause-found : goal.returns-clause-found
returns-clause-found c =
    subst (λ (rows : List Row). IfSome c.copied.result (λ place. (place < length rows) × ((d : Row) → (get_or rows place d).1 ≡ c.args.check.now))) c.self.view_is
    (index_found (λ (row : Row). row.1) c.self.inside.rows.items c.self.inside.places.entries c.args.check.now c.copied.result c.self.invariant (c.copied.ensures ∙ c.get.ensures.value))

pub returns-clause-none : goal.returns-clause-none
returns-clause-none c =
    subst (λ (rows : List Row). IfNone c.copied.result (Knows rows c.args.check.now → ⊥)) c.self.view_is
    (unknown c.copied.result c.self.inside.rows.items c.args.check.now
    (index_absent (λ (row : Row). row.1) c.self.inside.rows.items c.self.inside.places.entries c.args.check.now c.copied.result c.self.invariant (c.copied.ensures ∙ c.get.ensures.value)))
  where
    unknown : (r : Option ℕ) (rows : List Row) (check : List ℕ) → IfNone r ((row : Row) → Contains rows row → row.1 ≡ check → ⊥) → IfNone r (Knows rows check → ⊥)
    unknown (Some place) rows check none = tt
    unknown None rows check none = λ known. none (known.0, check) known.1 refl
