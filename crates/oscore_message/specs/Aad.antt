-- The additional authenticated data of a message (RFC 8613, 5.4): those of an answer are those of its request.
use Rattle.std.specs.Prelude.{ℕ, List, [], ◌++◌, codes}
use Rattle.oscore_context.specs.Items.{array, number, byte_string, text_string}
use Rattle.oscore_message.specs.PartialIv.{partial_iv}

-- aad_array = [oscore_version, [alg_aead], request_kid, request_piv, options], with no options
unfoldable pub aad_array : List ℕ → List ℕ → List ℕ
aad_array kid piv = array 5 ++ number 1 ++ (array 1 ++ number 10) ++ byte_string kid ++ byte_string piv ++ byte_string []

-- AAD = Enc_structure = ["Encrypt0", h'', external_aad], for the request of this kid and number
unfoldable pub aad : List ℕ → ℕ → List ℕ
aad kid n =
    array 3 ++ text_string (codes "Encrypt0") ++ byte_string [] ++ byte_string (aad_array kid (partial_iv n))
