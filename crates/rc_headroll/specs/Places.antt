-- A place of a log as the code hands it out.
use Rattle.rc_headroll.specs.declared.durable.Place.{Place}
use Rattle.rc_model.specs.Log.{LogPlace}

abbrev pub log_place : Place → LogPlace
log_place place = record { seg = place.seg; offset = place.offset; entry = place.entry.now; client = place.client }
