use Rattle.archive_core.specs.Key.{key_bytes}
use Rattle.laws_index.proofs.ByTables.{asked_by_device, asked_bytes, own_key, untold_by_device}
use Rattle.laws_index.proofs.command_laws.undamaged_by_indexes.Goals as goal

pub returns-clause-tables : goal.returns-clause-tables
returns-clause-tables g c = λ lines slices keys uuids frames inputs archives os at why are asked untold.
    untold_by_device frames inputs archives at why lines slices keys uuids os are asked untold

pub returns-clause-asked : goal.returns-clause-asked
returns-clause-asked g c = λ lines slices frames inputs archives os at why are refused.
    asked_by_device frames inputs archives at why lines slices os are refused

pub returns-clause-key : goal.returns-clause-key
returns-clause-key g c = λ lines keys uuids frames inputs archives os all refusal are asked there read is.
    own_key uuids inputs archives os lines all read are frames refusal (asked_bytes keys frames uuids asked (key_bytes refusal.key) there) is
