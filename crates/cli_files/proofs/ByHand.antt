-- What the proofs by hand of `new` and `note` cite of the program logic.
pub use seplogic.Ra.Ura.{Ura}
pub use mir.Val.{Val, vstruct, vcons, vnil, vunit, vptr}
pub use base.Logic.{SProp, ent, sep, emp, via, fst∗, id⊢}
pub use prog.Memory.{Memory}
pub use prog.Routine.{Routine}
pub use prog.Wp.{WpFn, Tables, Calls, Loops}
pub use types.Logic.{Logic}
pub use contract.Monad.{Fun}
pub use sound.WpLaws.{WpFn-mono}
pub use types.Run.{no_more, and_then, returns, enter, unit_lit, of_opd}
pub use types.Part.{agg}
pub use types.ByLocal.{alloc_all, pass_all, free_all, look_at, get, sets}
pub use denote.Shadow.{pure_i}
pub use denote.Steps.{nothing, opens, closes}
pub use denote.Triple.Entry.{on_entry}
pub use denote.Triple.Spec.{Meets, triple_of}
pub use denote.Triple.Table.{entered}
pub use denote.Triple.Walked.{says, ends_at, walked, walk_Meets, Stays, stay_ref, walk_of, AllGo, Goes-ref, Walks, stay_none_slice, Goes-none_slice}
pub use mir.Syntax.{named}
pub use base.Fml.{GName, Lft, Share, ftrue, flft, fobs, fbor}
pub use types.SemTy.{Body}
pub use denote.RattleType.{owns}
pub use denote.Memory.{mem}
pub use denote.Ref.{MutRef, mut_vals, mut_Tells, Bor}
pub use denote.Signature.{plain}
pub use denote.Builtin.{u8, u64}
pub use denote.Exit.{yes}
pub use denote.Slice.{ShrSlice, slice_val, shr_slice_vals, shr_slice_Tells}
