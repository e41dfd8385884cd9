-- How ids and addresses are printed.
use Rattle.std.specs.Prelude.{ℕ, List, ◌++◌, codes}
use Rattle.std.specs.Fmt.{decimal}
use Rattle.rc_types.specs.declared.ids.ServerId.{ServerId}
use Rattle.rc_types.specs.declared.ids.Addr.{Addr}
use Rattle.rc_types.specs.declared.ids.Addr.TheVariants.{Coordinator, Server, Outside}

-- the index, a point, the generation
abbrev pub id_text : ServerId → List ℕ
id_text id = decimal id.index ++ (codes "." ++ decimal id.generation)

-- c, out, or a server's id
abbrev pub addr_text : Addr → List ℕ
addr_text Coordinator = codes "c"
addr_text (Server id) = id_text id
addr_text Outside = codes "out"
