-- The names of the fields, as a document spells them.
use Rattle.std.specs.Prelude.{ℕ, List, codes}
use Rattle.join_policy.specs.declared.field.FieldName.{FieldName}
use Rattle.join_policy.specs.declared.field.FieldName.TheVariants as field

abbrev pub name_of : FieldName → List ℕ
name_of field.Network = codes "network"
name_of field.PoolFirst = codes "pool_first"
name_of field.PoolCount = codes "pool_count"
name_of field.Hours = codes "hours"
name_of field.Keys = codes "keys"
name_of field.Rate = codes "rate"
name_of field.Jrc = codes "jrc"
name_of field.Refused = codes "refused"
name_of field.NodeHost = codes "node_host"
name_of field.Pledge = codes "pledge"
name_of field.Id = codes "id"
name_of field.Psk = codes "psk"
name_of field.Allow = codes "allow"
name_of field.Sixlbr = codes "sixlbr"
