-- What the index of identifiers finds.
use Rattle.std.proofs.Common.{◌≡◌, ℕ, List, Option, Some, None, refl, ap}
use Rattle.std.specs.Prelude.{Contains, IfSome, IfNone}
use Rattle.std.specs.Map.{lookup}
use Rattle.std.specs.Str.{bytes_eq}
use Rattle.edge_traits.specs.declared.names.PledgeId.{PledgeId}
use Rattle.registrar_book.specs.Index.{IsIndexOf}
use Rattle.registrar_book.proofs.IndexLemmas.{index_found, index_absent}
use Rattle.registrar_tool.specs.Opened.{IsListedAt}

-- the bytes of an identifier
abbrev bytes_of : PledgeId → List ℕ
bytes_of id = id.0

same_id : (p q : PledgeId) → p.0 ≡ q.0 → p ≡ q
same_id p q is = ap (λ (bytes : List ℕ). record { 0 = bytes }) is

-- what is found is where the identifier is listed
pub listed_at : (ids : List PledgeId) (places : List (List ℕ × ℕ)) (id : PledgeId) (r : Option ℕ) → IsIndexOf bytes_of ids places → r ≡ lookup (bytes_eq id.0) places
    → IfSome r (IsListedAt ids id)
listed_at ids places id (Some place) index is =
    let found = index_found bytes_of ids places id.0 (Some place) index is in
    (found.0, same_id _ id (found.1 id))
listed_at ids places id None index is = tt

-- where nothing is found the identifier isn't listed
pub not_listed : (ids : List PledgeId) (places : List (List ℕ × ℕ)) (id : PledgeId) (r : Option ℕ) → IsIndexOf bytes_of ids places → r ≡ lookup (bytes_eq id.0) places
    → IfNone r (Contains ids id → ⊥)
not_listed ids places id (Some place) index is = tt
not_listed ids places id None index is = λ has. index_absent bytes_of ids places id.0 None index is id has refl
