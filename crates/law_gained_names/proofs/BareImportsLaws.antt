-- What an import without a name declares, in a workspace without faults.
use Rattle.law_gained_names.specs.BareImports.{BareImportsDeclare}
use Rattle.law_gained_names.proofs.OwnImport.{import_spec, named, path}
use Rattle.law_gained_names.proofs.OwnName.{seen_text}

pub bare_imports_declare : BareImportsDeclare
bare_imports_declare w sound p is d lt unnamed f of_rank =
    let h = is.is_checked in
    let spec = import_spec w sound p is d lt unnamed f of_rank in
    let its_path = path w sound p is d lt unnamed f of_rank in
    let its_name = named w sound p is d lt unnamed f of_rank in
    record {
      spec = spec.0;
      in_file = spec.1.0;
      bare = spec.1.1.0;
      literal = spec.1.1.1;
      path = its_path.0;
      has_path = its_path.1;
      named = its_name;
      is_identifier = seen_text w sound p.path its_path.0 (h.name_of its_path.0) (h.export_data_of its_path.0) (h.are_seen its_path.0) (p.names d) its_name;
    }
