-- Keys derived from a Master Secret and a Master Salt (RFC 8613, 3.2.1; HKDF is RFC 5869, over SHA-256).
use Rattle.std.specs.Prelude.{ℕ, List, [], ◌++◌, Option, codes}
use Rattle.hkdf_sha256.specs.Hkdf.{pseudorandom_key, output_keying_material}
use Rattle.oscore_context.specs.declared.keys.Keys.{Keys}
use Rattle.oscore_context.specs.Items.{array, number, byte_string, text_string, optional_bytes}

-- info = [id, id_context, alg_aead, type, L], where AES-CCM-16-64-128 is the algorithm 10
unfoldable pub info_text : List ℕ → Option (List ℕ) → List ℕ → ℕ → List ℕ
info_text id context kind len =
    array 5 ++ byte_string id ++ optional_bytes context ++ number 10 ++ text_string kind ++ number len

-- HKDF of the secret and the salt: `len` bytes for this ID and this type
unfoldable pub derived : List ℕ → List ℕ → Option (List ℕ) → List ℕ → List ℕ → ℕ → List ℕ
derived secret salt context id kind len =
    output_keying_material (pseudorandom_key salt secret) (info_text id context kind len) len

-- the Sender Key, the Recipient Key and the Common IV; the type is "Key" or "IV", and the Common IV has the empty ID
unfoldable pub keys_of : List ℕ → List ℕ → Option (List ℕ) → List ℕ → List ℕ → Keys
keys_of secret salt context sender recipient = record {
  sender = derived secret salt context sender (codes "Key") 16;
  recipient = derived secret salt context recipient (codes "Key") 16;
  iv = derived secret salt context [] (codes "IV") 13;
}
