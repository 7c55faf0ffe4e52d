-- The document of some bytes.
use Rattle.std.proofs.Common.{◌≡◌, List, ℕ, Some, None, Ok, Err, refl, inl, inr}
use Rattle.std.specs.Prelude.{IsUtf8}
use Rattle.std.specs.Str.{is_utf8}
use Rattle.std.proofs.lemmas.Bool.{cases_Bool}
use Rattle.std.proofs.lemmas.Str.{IsUtf8-from_is_utf8, is_utf8-from_IsUtf8}
use Rattle.toml.specs.Data.{Members, table}
use Rattle.toml.specs.Parse.{parse_document}
use Rattle.join_policy.specs.declared.fault.InventoryFault.TheVariants.{Toml}
use Rattle.join_policy.specs.Reading.{document_at}

pub parsed : (bytes : List ℕ) (members : Members) → IsUtf8 bytes → parse_document bytes ≡ Some members → document_at bytes ≡ Ok (table members)
unfolding document_at
parsed bytes all utf8 h = rw (is_utf8-from_IsUtf8 bytes utf8, h) refl

pub refused : (bytes : List ℕ) → (IsUtf8 bytes → parse_document bytes ≡ None) → document_at bytes ≡ Err Toml
unfolding document_at
refused bytes h = elim (cases_Bool (is_utf8 bytes)) [
  | inl yes_utf8 ↦ rw (yes_utf8, h (IsUtf8-from_is_utf8 bytes yes_utf8)) refl
  | inr other ↦ rw other refl
]
